-- Moments of a run: what holds through calls, joined and split, and what a call that took a snapshot answered.
use Rattle.std.proofs.Common.{◌≡◌, ℕ, suc, ◌≤◌, List, [], ◌∷◌, ◌++◌, length, Some, sym, refl, ap, ◌∙◌, subst, arith, length-append}
use Rattle.std.proofs.lemmas.List.{append_assoc}
use Rattle.std.proofs.lemmas.Bool.{eq-eqb, ne_eqb}
use Rattle.model.specs.declared.snapshot.Snapshot.{Snapshot}
use Rattle.model.specs.Rewinding.{snapshot}
use Rattle.model.specs.Run.{Call, Beginning, run, call, taken, taken_at}
use Rattle.model.specs.Run.Call.{SetErr, Start, Push, Allocate, Pad, Embed, Assign, CheckAssign, AddLink, AddVirtual, Repack, PopPack, PopDiscard, Snap, Revert, RevertForeign, End, Read, OwnerEnter, OwnerStrike}
use Rattle.model.specs.Moments.{at, Through, role}
use Rattle.model.specs.Liveness.{NotOlder, NoneOlder, Live, LiveRun}
use Rattle.model.proofs.Split.{if_true, if_false}
use Rattle.model.proofs.Effect.{Turns}

-- ---- through calls

pub through_here : (P : List Call → Type 0) (since before : List Call) → Through P since before → P (since ++ before)
through_here P [] before t = t
through_here P (c ∷ since) before t = t.0

pub through_split : (P : List Call → Type 0) (xs ys before : List Call) → Through P (xs ++ ys) before → Through P ys before
through_split P [] ys before t = t
through_split P (c ∷ xs) ys before t = through_split P xs ys before t.1

-- one call earlier
pub through_snoc : (P : List Call → Type 0) (xs : List Call) (c : Call) (bs : List Call) → Through P xs (c ∷ bs) → P bs → Through P (xs ++ (c ∷ [])) bs
through_snoc P [] c bs t p = (t, p)
through_snoc P (x ∷ xs) c bs t p = (subst (λ (z : List Call). P (x ∷ z)) (sym (append_assoc xs (c ∷ []) bs)) t.0, through_snoc P xs c bs t.1 p)

-- first through ys, then through xs
pub through_join : (P : List Call → Type 0) (xs ys before : List Call) → Through P xs (ys ++ before) → Through P ys before → Through P (xs ++ ys) before
through_join P [] ys before t u = u
through_join P (c ∷ xs) ys before t u = (subst (λ (z : List Call). P (c ∷ z)) (sym (append_assoc xs ys before)) t.0, through_join P xs ys before t.1 u)

pub through_map : (P Q : List Call → Type 0) → ((ds : List Call) → P ds → Q ds) → (since before : List Call) → Through P since before → Through Q since before
through_map P Q f [] before t = f before t
through_map P Q f (c ∷ since) before t = (f (c ∷ (since ++ before)) t.0, through_map P Q f since before t.1)

-- at every moment of the run
abbrev pub Throughout : (List Call → Type 0) → List Call → Type 0
Throughout P [] = P []
Throughout P (c ∷ cs) = P (c ∷ cs) × Throughout P cs

pub throughout_here : (P : List Call → Type 0) (cs : List Call) → Throughout P cs → P cs
throughout_here P [] f = f
throughout_here P (c ∷ cs) f = f.0

pub throughout_drop : (P : List Call → Type 0) (ys cs : List Call) → Throughout P (ys ++ cs) → Throughout P cs
throughout_drop P [] cs f = f
throughout_drop P (y ∷ ys) cs f = throughout_drop P ys cs f.1

-- two ways to the same run
pub split_two : (xs bs ys cs : List Call) → xs ++ bs ≡ ys ++ cs → length bs ≤ length cs → (mid : List Call) × (cs ≡ mid ++ bs) × (xs ≡ ys ++ mid)
split_two xs bs [] cs e l = (xs, sym e, refl)
split_two [] bs (y ∷ ys) cs e l = absurd (let z = ap length e in let w = length-append ys cs in omega arith)
split_two (x ∷ xs) bs (y ∷ ys) cs e l =
    let a : x ≡ y = cc in let f : xs ++ bs ≡ ys ++ cs = cc in let q = split_two xs bs ys cs f l in
    (q.0, q.1, (let g = q.2 in cc))

-- ---- snapshots

pub older_split : (j : ℕ) (xs ys : List Call) → NoneOlder j (xs ++ ys) → NoneOlder j ys
older_split j [] ys t = t
older_split j (c ∷ xs) ys t = older_split j xs ys t.1

pub older_snoc : (j : ℕ) (xs : List Call) (c : Call) → NoneOlder j xs → NotOlder j (role c) → NoneOlder j (xs ++ (c ∷ []))
older_snoc j [] c t p = (p, tt)
older_snoc j (x ∷ xs) c t p = (t.0, older_snoc j xs c t.1 p)

pub live_drop : (b : Beginning) (xs ys : List Call) → LiveRun b (xs ++ ys) → LiveRun b ys
live_drop b [] ys l = l
live_drop b (x ∷ xs) ys l = live_drop b xs ys l.1

-- answers are as many as calls
answers_length : (b : Beginning) (cs : List Call) → length (run b cs).answers ≡ length cs
answers_length b [] = refl
answers_length b (c ∷ cs) = ap suc (answers_length b cs)

answer_of : (b : Beginning) (since before : List Call) (c : Call) → taken_at (run b (since ++ (c ∷ before))).answers (length before) ≡ taken (call c (at b before) (run b before).register (run b before).answers).answer
answer_of b [] before c = if_true _ _ _ (eq-eqb _ _ (answers_length b before))
answer_of b (e ∷ since) before c = if_false _ _ _ (ne_eqb _ _ (λ z. longer since before c (sym (answers_length b (since ++ (c ∷ before))) ∙ z))) ∙ answer_of b since before c
  where
    longer : (since before : List Call) (c : Call) → length (since ++ (c ∷ before)) ≡ length before → ⊥
    longer since before c z = let y = length-append since (c ∷ before) in omega arith

-- a live snapshot is that of the state when it was taken
pub live_taken : (b : Beginning) (j : ℕ) (cs : List Call) (live : Live b j cs) → taken_at (run b cs).answers j ≡ Some (snapshot (at b live.before))
live_taken b j cs live =
    subst (λ (x : ℕ). taken_at (run b cs).answers x ≡ Some (snapshot (at b live.before))) live.then
    (subst (λ (x : List Call). taken_at (run b x).answers (length live.before) ≡ Some (snapshot (at b live.before))) (sym live.made) (answer_of b live.since live.before Snap))

-- ---- which calls revert

pub data Turning : Call → Type 0 where
  ahead : {c : Call} → (Turns (role c) → ⊥) → Turning c
  back : (j : ℕ) → Turning (Revert j)
  away : (p : Snapshot) → Turning (RevertForeign p)

pub turning : (c : Call) → Turning c
turning (Revert j) = back j
turning (RevertForeign p) = away p
turning (SetErr f) = ahead (λ v. v)
turning Start = ahead (λ v. v)
turning Push = ahead (λ v. v)
turning (Allocate n z) = ahead (λ v. v)
turning (Pad n) = ahead (λ v. v)
turning (Embed bs) = ahead (λ v. v)
turning (Assign n bs) = ahead (λ v. v)
turning (CheckAssign n fit f) = ahead (λ v. v)
turning (AddLink x y k w i g) = ahead (λ v. v)
turning (AddVirtual k) = ahead (λ v. v)
turning (Repack k) = ahead (λ v. v)
turning (PopPack share) = ahead (λ v. v)
turning PopDiscard = ahead (λ v. v)
turning Snap = ahead (λ v. v)
turning End = ahead (λ v. v)
turning (Read q) = ahead (λ v. v)
turning (OwnerEnter h k) = ahead (λ v. v)
turning (OwnerStrike h k) = ahead (λ v. v)
