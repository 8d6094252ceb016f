-- The law's third part: the output of an ending that leaves no flag.
use Rattle.std.proofs.Common.{◌≡◌, ℕ, suc, ◌+◌, ◌-◌, ◌<◌, ◌≤◌, Bool, true, false, not, eqb, ltb, ◌⊎◌, List, [], ◌∷◌, ◌++◌, length, get_or, take, drop, pos, ◌-ℤ◌, Some, None, Option, sym, ap, ◌∙◌, subst, inl, inr, arith, length-drop, drop-drop}
use Rattle.cursor.specs.declared.flags.SerializeErrorFlags.{SerializeErrorFlags}
use Rattle.cursor.specs.Flags.{none, hard, same_flags}
use Rattle.link.specs.declared.Link.{Link}
use Rattle.link.specs.declared.OffsetWhence.{OffsetWhence}
use Rattle.link.specs.declared.OffsetWhence.TheVariants.{Head, Tail, Absolute}
use Rattle.link.specs.Width.{bytes_of_width}
use Rattle.scalar.specs.BigEndian.{big_endian}
use Rattle.scalar.specs.Place.{part, write}
use Rattle.scalar.specs.Laws.{length_big_endian}
use Rattle.std.proofs.lemmas.List.{length-take-le, drop_at, get_or-drop}
use Rattle.std.proofs.lemmas.Int.{ints}
use Rattle.std.proofs.lemmas.Bool.{ltb-false, le-ltb, ne_eqb, cases_lt}
use Rattle.model.specs.State.{State, Object, numbered}
use Rattle.model.specs.Declining.{flagged}
use Rattle.model.specs.Ending.{Field, reach, field}
use Rattle.model.specs.Reading.{nth, output}
use Rattle.model.specs.Run.{Call, Beginning, run}
use Rattle.model.specs.Run.Call.{End}
use Rattle.model.specs.Run.Answer.{Bytes}
use Rattle.model.specs.Moments.{at, span}
use Rattle.model.specs.Offsets.{distance, shown, FieldOf, from, to, Inside, MeetsNone, ReadsBack, contents, LawC}
use Rattle.model.proofs.Split.{by_test, if_false}
use Rattle.model.proofs.Memory.{part_inside, get_or_part}
use Rattle.model.proofs.Number.{none_some, some_inj, nth_below}
use Rattle.model.proofs.Sound.{under_end}
use Rattle.model.proofs.Packing.{not_hard}
use Rattle.model.proofs.Stack.{run_sound, numbered_above}
use Rattle.model.proofs.Origin.{all_added}
use Rattle.model.proofs.Child.{child_stood}
use Rattle.model.proofs.Output.{contents_drop, one_placed, placed, Fit, AllFit, length_one, length_placed, placed_append, fit_append, Clear, placed_outside}
use Rattle.model.proofs.Field.{Lab, Others, Spot, spots, all_labelled}
use Rattle.model.proofs.Ending.{Ending, end_ending, shown_field, minus}

-- ---- one field

-- what a field of the link l from the parent o to the child c says
record Says (s : State) (o c : Object) (l : Link) (h : Field) : Type 0 where
  place : h.place ≡ o.head + l.position
  width : h.width ≡ bytes_of_width l.width
  signed : h.signed ≡ l.is_signed
  reached : (reach s l.whence o c).1 + l.bias ≤ (reach s l.whence o c).0
  value : h.value ≡ (reach s l.whence o c).0 - ((reach s l.whence o c).1 + l.bias)

says : (s : State) (o c : Object) (l : Link) (h : Field) → field s o l (Some c) ≡ Some h → Says s o c l h
says s o c l h = by_test (ltb (reach s l.whence o c).0 ((reach s l.whence o c).1 + l.bias)) _ _ (λ (x : Option Field). x ≡ Some h → Says s o c l h)
    (λ t e. absurd (none_some h e))
    (λ t e. let g = sym (some_inj _ h e) in
    record { place = ap (λ (x : Field). x.place) g; width = ap (λ (x : Field). x.width) g; signed = ap (λ (x : Field). x.signed) g; reached = ltb-false (reach s l.whence o c).0 ((reach s l.whence o c).1 + l.bias) t; value = ap (λ (x : Field). x.value) g })

clear_from : (s : State) (ps : List Object) (k i p q : ℕ) (fs : List Field) → Others s ps k i fs →
    ((k' i' : ℕ) (h : Field) → Lab s ps k' i' h → ((k' ≡ k) × (i' ≡ i) → ⊥) → (h.width ≡ 0 → ⊥) → (q ≤ h.place) ⊎ (h.place + h.width ≤ p)) → Clear p q fs
clear_from s ps k i p q [] o c = tt
clear_from s ps k i p q (h ∷ hs) o c = (c o.0.0 o.0.1 h o.0.2 o.0.3, clear_from s ps k i p q hs o.1 c)

less_bias : (a c d : ℕ) → c + d ≤ a → (pos a -ℤ pos c) -ℤ pos d ≡ pos (a - (c + d))
less_bias a c d l = omega (arith, ints)

-- ---- an ending

module _ (b : Beginning) (cs : List Call) (going : (at b cs).ended ≡ false) (ended : (at b (End ∷ cs)).ended ≡ true) (done : (at b (End ∷ cs)).flags ≡ none) where
  abbrev n : ℕ
  n = span b

  abbrev s : State
  s = at b cs

  abbrev s₃ : State
  s₃ = at b (End ∷ cs)

  e : Ending n s s₃
  e = end_ending n s (run_sound b cs) (run b cs).register going ended done

  -- the object closed last, and the state before the fields were written
  abbrev o : Object
  o = e.last

  abbrev w : State
  w = e.closed

  abbrev fs : List Field
  fs = e.written

  head_is : s₃.head ≡ o.head
  head_is = e.placed.head ∙ e.popped.head

  under_tail : o.head ≤ w.tail
  under_tail = let a = e.popped.sound.below in let c = e.popped.head in omega arith

  above_tail : (k : ℕ) (p : Object) → numbered w.packed k ≡ Some p → w.tail ≤ p.head
  above_tail k p q = let a = numbered_above n w.packed e.popped.sound.stacked k p q in let c = e.popped.sound.under in omega arith

  wide_so : (k i : ℕ) (h : Field) → (t : Lab w w.packed k i h) → (h.width ≡ 0 → ⊥) → 0 < bytes_of_width t.link.width
  wide_so k i h t ne = let g = (says w t.object t.child t.link h t.is).width in omega arith

  abbrev field_of : (k i : ℕ) (h : Field) → (t : Lab w w.packed k i h) → (h.width ≡ 0 → ⊥) → FieldOf s₃ k i
  field_of k i h t ne = record { object = t.object; link = t.link; packed = ap (λ (x : List Object). numbered x k) e.packed ∙ t.packed; linked = t.linked; wide = wide_so k i h t ne }

  -- ---- bytes outside the fields

  before_is : part s.memory o.head s.head ++ contents s s.packed ≡ drop w.tail w.memory
  before_is =
      let d = run_sound b cs in
      ap (λ (x : List ℕ). part s.memory o.head s.head ++ x) (contents_drop n s s.packed d.stacked d.sized ∙ ap (λ (x : ℕ). drop x s.memory) (sym (not_hard n s d (ap hard e.clean)))) ∙ sym e.popped.after

  after_length : length (drop s₃.tail s₃.memory) ≡ length (drop w.tail w.memory)
  after_length = length-drop s₃.tail s₃.memory ∙ ((let x = e.placed.tail in let y = (run_sound b (End ∷ cs)).sized in let z = e.popped.sound.sized in omega arith) ∙ sym (length-drop w.tail w.memory))

  labelled : Others w w.packed (length w.packed) 0 fs
  labelled = all_labelled w w.packed fs e.these (length w.packed) 0 (omega arith)

  outside : (p q : ℕ) → ((k i : ℕ) (h : Field) → Lab w w.packed k i h → (h.width ≡ 0 → ⊥) → (q ≤ h.place) ⊎ (h.place + h.width ≤ p)) → part s₃.memory p q ≡ part w.memory p q
  outside p q c = ap (λ (x : List ℕ). part x p q) e.placed.memory ∙ placed_outside fs w.memory p q e.placed.fits (clear_from w w.packed (length w.packed) 0 p q fs labelled (λ k i h t _ ne. c k i h t ne))

  loose : take s₃.head s₃.memory ≡ take o.head s.memory
  loose =
      let z : o.head - 0 ≡ o.head = omega arith in
      ap (λ (x : ℕ). take x s₃.memory) head_is ∙ (sym (ap (λ (x : ℕ). take x s₃.memory) z) ∙ (outside 0 o.head (λ k i h t ne. inl (let g = (says w t.object t.child t.link h t.is).place in let a = above_tail k t.object t.packed in let u = under_tail in omega arith))
      ∙ (ap (λ (x : ℕ). take x w.memory) z ∙ e.popped.loose)))

  written_out : output s₃ ≡ take s₃.head s₃.memory ++ drop s₃.tail s₃.memory
  written_out = if_false (flagged s₃) [] (take s₃.head s₃.memory ++ drop s₃.tail s₃.memory) (ap (λ (x : SerializeErrorFlags). not (same_flags x none)) done)

  inside_so : (j k i : ℕ) (h : Field) (t : Lab w w.packed k i h) (ne : h.width ≡ 0 → ⊥) → h.place ≤ w.tail + j → w.tail + j < h.place + h.width → Inside s₃ (o.head + j)
  inside_so j k i h t ne l u =
      let g = says w t.object t.child t.link h t.is in
      let a = above_tail k t.object t.packed in let x = e.placed.tail in let y = head_is in
      (k, i, field_of k i h t ne, omega (arith, g.place, g.width), omega (arith, g.place, g.width))

  unchanged : (j : ℕ) → j < length (drop s₃.tail s₃.memory) → (Inside s₃ (o.head + j) → ⊥) → get_or (drop s₃.tail s₃.memory) j 0 ≡ get_or (part s.memory o.head s.head ++ contents s s.packed) j 0
  unchanged j l out =
      get_or-drop s₃.tail s₃.memory j 0 ∙ (ap (λ (x : ℕ). get_or s₃.memory (x + j) 0) e.placed.tail ∙ (get_or_part s₃.memory (w.tail + j)
      ∙ (ap (λ (x : List ℕ). get_or x 0 0) (outside (w.tail + j) (suc (w.tail + j)) (λ k i h t ne.
      elim (cases_lt (w.tail + j) h.place) [ inl u ↦ inl u | inr u ↦ elim (cases_lt (w.tail + j) (h.place + h.width)) [ inl v ↦ absurd (out (inside_so j k i h t ne u v)) | inr v ↦ inr v ] ]))
      ∙ (sym (get_or_part w.memory (w.tail + j)) ∙ (sym (get_or-drop w.tail w.memory j 0) ∙ ap (λ (x : List ℕ). get_or x j 0) (sym before_is))))))

  -- ---- a field read

  module _ (k i : ℕ) (f : FieldOf s₃ k i) (alone : MeetsNone f) where
    packed_before : numbered w.packed k ≡ Some f.object
    packed_before = ap (λ (x : List Object). numbered x k) (sym e.packed) ∙ f.packed

    spot : Spot w w.packed fs k i
    spot = spots w w.packed fs e.these k f.object packed_before i (nth_below f.object.real i f.link f.linked)

    abbrev h : Field
    h = spot.here

    abbrev t : Lab w w.packed k i h
    t = spot.lab

    same_object : t.object ≡ f.object
    same_object = some_inj t.object f.object (sym t.packed ∙ packed_before)

    same_link : t.link ≡ f.link
    same_link = some_inj t.link f.link (sym t.linked ∙ (ap (λ (x : Object). nth x.real i) same_object ∙ f.linked))

    said : Says w f.object t.child f.link h
    said = subst (λ (x : Link). Says w f.object t.child x h) same_link (subst (λ (x : Object). Says w x t.child t.link h) same_object (says w t.object t.child t.link h t.is))

    wide : h.width ≡ 0 → ⊥
    wide z = let a = said.width in let c = f.wide in omega arith

    high : w.tail ≤ f.object.head
    high = above_tail k f.object packed_before

    clear : Clear h.place (h.place + h.width) spot.rest
    clear = clear_from w w.packed k i h.place (h.place + h.width) spot.rest spot.others (λ k' i' g u ne nz.
        let x = e.placed.tail in let y = high in let p = said.place in let q = said.width in
        let v = says w u.object u.child u.link g u.is in let vp = v.place in let vw = v.width in
        let a = above_tail k' u.object u.packed in
        elim (alone k' i' (field_of k' i' g u nz) ne)
        [ inl m ↦ inl (omega arith) | inr m ↦ inr (omega arith) ])

    -- the memory when the fields before it were written
    abbrev m₁ : List ℕ
    m₁ = placed spot.front w.memory

    fit : AllFit (length w.memory) spot.front × AllFit (length w.memory) (h ∷ spot.rest)
    fit = fit_append (length w.memory) spot.front (h ∷ spot.rest) (subst (AllFit (length w.memory)) spot.split e.placed.fits)

    length_m₁ : length m₁ ≡ length w.memory
    length_m₁ = length_placed spot.front w.memory fit.0

    in_memory : part s₃.memory h.place (h.place + h.width) ≡ big_endian h.width h.value
    in_memory =
        let room = (fit.1.0 wide).1 in let z = length_big_endian h.width h.value in let y = length_m₁ in
        let one : one_placed h m₁ ≡ write m₁ h.place (big_endian h.width h.value) = if_false (eqb h.width 0) m₁ (write m₁ h.place (big_endian h.width h.value)) (ne_eqb h.width 0 wide) in
        ap (λ (x : List ℕ). part x h.place (h.place + h.width)) (e.placed.memory ∙ (ap (λ (x : List Field). placed x w.memory) spot.split ∙ placed_append spot.front (h ∷ spot.rest) w.memory))
        ∙ (placed_outside spot.rest (one_placed h m₁) h.place (h.place + h.width)
        (subst (λ (x : ℕ). AllFit x spot.rest) (sym (length_one h m₁ (subst (λ (x : ℕ). Fit x h) (sym length_m₁) fit.1.0) ∙ length_m₁)) fit.1.1) clear
        ∙ (ap (λ (x : List ℕ). part x h.place (h.place + h.width)) one
        ∙ part_inside m₁ h.place (big_endian h.width h.value) (h.place + h.width) (omega arith) (omega arith)))

    in_output : part (output s₃) (from f) (to f) ≡ part s₃.memory h.place (h.place + h.width)
    in_output =
        let d = run_sound b (End ∷ cs) in
        let u : s₃.tail ≤ n = under_end n s₃ d in
        let y = (f.object.head - s₃.tail) + f.link.position in
        let a : length (take s₃.head s₃.memory) ≡ s₃.head = length-take-le s₃.head s₃.memory (omega (arith, d.below, d.sized)) in
        let x = e.placed.tail in let hi = high in let p = said.place in let q = said.width in
        let f₁ : from f ≡ s₃.head + y = omega arith in
        let f₂ : s₃.tail + y ≡ h.place = omega arith in
        let f₃ : to f - from f ≡ h.place + h.width - h.place = omega arith in
        ap (λ (z : ℕ). take z (drop (from f) (output s₃))) f₃
        ∙ ap (take (h.place + h.width - h.place))
        (ap (λ (z : ℕ). drop z (output s₃)) f₁ ∙ (sym (drop-drop y s₃.head (output s₃)) ∙ (ap (λ (z : List ℕ). drop y (drop s₃.head z)) written_out
        ∙ (ap (drop y) (drop_at (take s₃.head s₃.memory) (drop s₃.tail s₃.memory) s₃.head a) ∙ (drop-drop y s₃.tail s₃.memory ∙ ap (λ (z : ℕ). drop z s₃.memory) f₂)))))

    child_named : numbered s₃.packed f.link.objidx.0 ≡ Some t.child
    child_named = ap (λ (x : List Object). numbered x f.link.objidx.0) e.packed ∙ subst (λ (x : Link). numbered w.packed x.objidx.0 ≡ Some t.child) same_link t.named

    far_so : pos h.value ≡ (distance s₃ f.link.whence f.object t.child -ℤ pos f.link.bias)
    far_so = go f.link.whence f.link.bias h.value said.reached said.value
      where
        low : w.tail ≤ t.child.head
        low = above_tail t.link.objidx.0 t.child t.named

        go : (v : OffsetWhence) (bias val : ℕ) → (reach w v f.object t.child).1 + bias ≤ (reach w v f.object t.child).0 → val ≡ (reach w v f.object t.child).0 - ((reach w v f.object t.child).1 + bias) →
            pos val ≡ (distance s₃ v f.object t.child -ℤ pos bias)
        go Head bias val l q = ap pos q ∙ sym (less_bias t.child.head f.object.head bias l)
        go Tail bias val l q = ap pos q ∙ sym (less_bias t.child.head f.object.tail bias l)
        go Absolute bias val l q =
            let x = e.placed.tail in let y = e.placed.head in let lo = low in
            ap pos (let z : val ≡ s₃.head + (t.child.head - s₃.tail) - bias = omega arith in z) ∙ sym (minus (s₃.head + (t.child.head - s₃.tail)) bias (omega arith))

    reads_back : ReadsBack b (End ∷ cs) k i f
    reads_back =
        let a = all_added b (End ∷ cs) k f.object f.packed i f.link f.linked in
        record {
          added = a;
          child = t.child;
          named = child_named;
          shows = ap (shown f.link.is_signed) (in_output ∙ in_memory) ∙ (ap (λ (x : Bool). shown x (big_endian h.width h.value)) (sym said.signed)
              ∙ (shown_field h.width h.value h.signed (let z = wide in omega arith) (fit.1.0 wide).0 ∙ far_so));
          stood = λ live c q. child_stood b (End ∷ cs) live k i f.link a f.link.objidx.0 c q;
        }

  pub law_c : LawC b cs
  law_c = record {
    last = o;
    opened = e.opened;
    laid = drop s₃.tail s₃.memory;
    whole = written_out ∙ ap (λ (x : List ℕ). x ++ drop s₃.tail s₃.memory) loose;
    sized = after_length ∙ ap length (sym before_is);
    unchanged = unchanged;
    reads = reads_back;
    copied = λ room l. ap Bytes (if_false (ltb room (length (output s₃))) None (Some (output s₃)) (le-ltb room (length (output s₃)) l));
  }
