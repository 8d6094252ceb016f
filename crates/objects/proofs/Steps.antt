-- A link added to an object, its links cut back, and virtual links handed over; and the model's words for the three.
use Rattle.std.proofs.Common.{◌≡◌, ℕ, suc, ◌+◌, ◌-◌, ◌*◌, ◌<◌, Bool, true, false, cond, not, ◌&&◌, eqb, ltb, ◌≢◌, List, [], ◌∷◌, ◌++◌, length, get_or, take, set, is_some, Some, None, Option, sym, refl, ap, ◌∙◌, subst, arith}
use Rattle.std.specs.Option.{option_map, option_zip}
use Rattle.std.proofs.lemmas.List.{length_push, length-take, length-append, get_or-set_other}
use Rattle.std.proofs.lemmas.Bool.{lt-ltb, ne_eqb, and_from, cond-true}
use Rattle.link.specs.declared.Link.{Link}
use Rattle.link.specs.declared.ObjIdx.{ObjIdx}
use Rattle.link.specs.declared.PoolIdx.{PoolIdx}
use Rattle.links.specs.Walk.{sum_of}
use Rattle.model.specs.State.{Object, numbered, cell_free}
use Rattle.model.specs.Linking.{lend, virtual_to}
use Rattle.model.specs.Reading.{virtual_of}
use Rattle.objects.specs.declared.extents.Kind.{Kind}
use Rattle.objects.specs.declared.extents.Kind.TheVariants.{Real, Virtual}
use Rattle.objects.specs.declared.extents.Which.{Which}
use Rattle.objects.specs.declared.extents.Which.TheVariants.{Innermost, LastPacked, Numbered}
use Rattle.objects.specs.Slots.{occ}
use Rattle.objects.specs.Contents.{Contents, Parts, meaning, in_slot}
use Rattle.objects.specs.Kinds.{list_number, of_kind, links_in, with_kind}
use Rattle.objects.specs.Change.{first, chosen, ordered}
use Rattle.objects.specs.Steps.{at_number, changes, counts, grown, grows, shortened, shortens, hands_over}
use Rattle.objects.specs.Loose.{slot_at}
use Rattle.objects.proofs.Sound.{Sound}
use Rattle.objects.proofs.Frame.{Touch, with_links, sum_set}
use Rattle.objects.proofs.Stack.{same_contents}
use Rattle.objects.proofs.Place.{at_occ, meant, stands}
use Rattle.objects.proofs.Relink.{set_touch, kind_is, number_in, set_kind, relinked_sound, relinked}

-- ---- the model's words

pub lent_is : (vs : List Link) (n : ℕ) (os : List Object) → at_number (λ o. with_kind Virtual (o.virtual ++ vs) o) n os ≡ lend vs n os
lent_is vs n [] = refl
lent_is vs n (o ∷ os) = ap (λ (ps : List Object). elim (eqb (length os) n) [ true ↦ with_kind Virtual (o.virtual ++ vs) o ∷ os | false ↦ o ∷ ps ]) (lent_is vs n os)

pub grows_ordered : (k n : ObjIdx) (c : Contents) → grows (Numbered n) Virtual (virtual_to k) c ≡ ordered k n.0 c
grows_ordered k n c = same_contents refl (lent_is (virtual_to k ∷ []) n.0 c.packed) refl

some_links : (k : Kind) (o : Object) → links_in k (Some o) ≡ of_kind k o
some_links Real o = refl
some_links Virtual o = refl

-- ---- the list of the object that is meant

-- its slot, where there is one
pub record Listed (w : Which) (k : Kind) (p : Parts) (j : ℕ) : Type 0 where
  pub slot : PoolIdx
  pub stands : slot_at w p ≡ Some slot
  pub number : j ≡ list_number k slot

listed_at : (w : Which) (k : Kind) (p : Parts) (j : ℕ) (r : Option PoolIdx) → slot_at w p ≡ r → Some j ≡ option_map (list_number k) r → Listed w k p j
listed_at w k p j (Some x) g e = record { slot = x; stands = g; number = cc }
listed_at w k p j None g e = absurd (cc)

pub listed : (w : Which) (k : Kind) (p : Parts) (j : ℕ) → Some j ≡ option_map (list_number k) (slot_at w p) → Listed w k p j
listed w k p j e = listed_at w k p j (slot_at w p) refl e

-- the cells counted first or last
counted_in : (w : Which) (f : Object → Object) (m : ℕ) (c : Contents) → counts m (changes w f c) ≡ changes w f (counts m c)
counted_in Innermost f m c = refl
counted_in LastPacked f m c = refl
counted_in (Numbered n) f m c = refl

module _ (w : Which) (k : Kind) (p : Parts) (s : Sound p) (j : ℕ) (l : Listed w k p j) where
  pub chosen_is : chosen w (meaning p) ≡ Some (in_slot p.extents p.links l.slot)
  chosen_is = sym (meant w p) ∙ ap (option_map (in_slot p.extents p.links)) l.stands

  slot_lists : 2 * l.slot.0 + 1 < length p.links
  slot_lists = let o = stands w p l.slot s l.stands in omega (arith, o.taken, s.roomy, s.paired)

  pub list_in : j < length p.links
  list_in = let h = number_in k l.slot (length p.links) slot_lists in omega (arith, l.number)

  pub list_touch : (v : List Link) → Touch l.slot.0 p.links (set p.links j v)
  list_touch v = subst (λ (i : ℕ). Touch l.slot.0 p.links (set p.links i v)) (sym l.number) (set_touch k l.slot p.links v)

  pub list_sound : (v : List Link) (n : ℕ) → Sound (with_links p (set p.links j v) n)
  list_sound v n = relinked_sound p s l.slot (set p.links j v) (list_touch v) n w l.stands

  -- the list j becomes v, which is what f makes of the object's links of the kind
  pub list_means : (v : List Link) (f : Object → Object) (m n : ℕ) → with_kind k v (in_slot p.extents p.links l.slot) ≡ f (in_slot p.extents p.links l.slot)
      → sum_of length (set p.links j v) ≡ m → n ≡ p.cells → meaning (with_links p (set p.links j v) n) ≡ counts m (changes w f (meaning p))
  list_means v f m n e u c =
      let q : in_slot p.extents (set p.links j v) l.slot ≡ with_kind k v (in_slot p.extents p.links l.slot) =
      ap (λ (i : ℕ). in_slot p.extents (set p.links i v) l.slot) l.number ∙ set_kind k l.slot p.extents p.links v slot_lists in
      relinked p s l.slot (set p.links j v) (list_touch v) n w f m l.stands (q ∙ e) u c

  pub list_links : get_or p.links j [] ≡ of_kind k (in_slot p.extents p.links l.slot)
  list_links = ap (λ (i : ℕ). get_or p.links i []) l.number ∙ sym (kind_is k l.slot p.extents p.links)

  -- ---- a link more

  pub grown_means : (z : Link) (n : ℕ) → n ≡ p.cells → meaning (with_links p (set p.links j (get_or p.links j [] ++ z ∷ [])) n) ≡ grows w k z (meaning p)
  grown_means z n c =
      let v : List Link = get_or p.links j [] ++ z ∷ [] in
      let u : sum_of length (set p.links j v) ≡ suc (sum_of length p.links) = omega (arith, sum_set p.links j v list_in, length_push (get_or p.links j []) z) in
      list_means v (grown k z) _ n (ap (λ (ls : List Link). with_kind k (ls ++ z ∷ []) (in_slot p.extents p.links l.slot)) list_links) u c ∙ counted_in w (grown k z) (suc (sum_of length p.links)) (meaning p)

  pub grown_room : (b : Bool) → b ≡ (ltb j (length p.links) && ltb (sum_of length p.links) p.cells) → b ≡ (is_some (chosen w (meaning p)) && cell_free (meaning p).pool)
  grown_room b e = e ∙ ap (λ (t : Bool). t && ltb (sum_of length p.links) p.cells) (lt-ltb j (length p.links) list_in) ∙ sym (ap (λ (o : Option Object). is_some o && ltb (sum_of length p.links) p.cells) chosen_is)

-- ---- the innermost object's first links

pub shortened_means : (k : Kind) (p : Parts) (s : Sound p) (j : ℕ) (l : Listed Innermost k p j) (a n : ℕ) → n ≡ p.cells
    → meaning (with_links p (set p.links j (take a (get_or p.links j []))) n) ≡ shortens k a (meaning p)
shortened_means k p s j l a n c =
    let v : List Link = take a (get_or p.links j []) in
    let o : Object = in_slot p.extents p.links l.slot in
    let e : get_or p.links j [] ≡ of_kind k o = list_links Innermost k p s j l in
    let f : links_in k (first (meaning p).opened) ≡ of_kind k o = ap (links_in k) (chosen_is Innermost k p s j l) ∙ some_links k o in
    let u : sum_of length (set p.links j v) ≡ sum_of length p.links - (length (links_in k (first (meaning p).opened)) - a) =
    omega (arith, sum_set p.links j v (list_in Innermost k p s j l), length-take a (get_or p.links j []), ap {B = ℕ} length e, ap {B = ℕ} length f) in
    list_means Innermost k p s j l v (shortened k a) _ n (ap (λ (ls : List Link). with_kind k (take a ls) o) e) u c

-- ---- the innermost object's virtual links at the end of those of a packed one

-- the lists of two objects that there are
pub zipped : (a b : Option ℕ) (i j : ℕ) → Some (i, j) ≡ option_zip a b → (a ≡ Some i) × (b ≡ Some j)
zipped None b i j e = absurd (cc)
zipped (Some a) None i j e = absurd (cc)
zipped (Some a) (Some b) i j e = let f : (i, j) ≡ (a, b) = cc in (ap (λ (z : ℕ × ℕ). Some z.0) (sym f), ap (λ (z : ℕ × ℕ). Some z.1) (sym f))

module _ (p : Parts) (s : Sound p) (n : ObjIdx) (i j : ℕ) (from : Listed Innermost Virtual p i) (to : Listed (Numbered n) Virtual p j) where
  two_lists : j ≢ i
  two_lists e =
      let h = from.number in
      let g = to.number in
      let z : to.slot.0 ≡ from.slot.0 = omega arith in
      let m = stands (Numbered n) p to.slot s to.stands in
      omega (arith, ap (λ (k : ℕ). occ k p.opened) z, m.once, at_occ p.packed n.0 to.slot to.stands, at_occ p.opened (length p.opened - 1) from.slot from.stands)

  abbrev longer : List Link
  longer = get_or p.links j [] ++ get_or p.links i []

  abbrev lent : Parts
  lent = with_links p (set p.links j longer) p.cells

  abbrev pub handed : List (List Link)
  handed = set (set p.links j longer) i []

  lent_sound : Sound lent
  lent_sound = list_sound (Numbered n) Virtual p s j to longer p.cells

  from_lent : Listed Innermost Virtual lent i
  from_lent = record { slot = from.slot; stands = from.stands; number = from.number }

  pub handed_sound : (m : ℕ) → Sound (with_links p handed m)
  handed_sound m = list_sound Innermost Virtual lent lent_sound i from_lent [] m

  handed_sum : sum_of length handed ≡ sum_of length p.links
  handed_sum =
      let a = sum_set p.links j longer (list_in (Numbered n) Virtual p s j to) in
      let b = sum_set lent.links i [] (list_in Innermost Virtual lent lent_sound i from_lent) in
      let c = ap {B = ℕ} length (get_or-set_other p.links j i longer [] (λ e. two_lists (sym e))) in
      let d = length-append (get_or p.links j []) (get_or p.links i []) in
      omega arith

  pub handed_means : (m : ℕ) → m ≡ p.cells → meaning (with_links p handed m) ≡ hands_over n.0 (meaning p)
  handed_means m c =
      let vs : List Link = get_or p.links i [] in
      let f : Object → Object = λ (o : Object). with_kind Virtual (o.virtual ++ vs) o in
      let e : vs ≡ virtual_of (first (meaning p).opened) = list_links Innermost Virtual p s i from ∙ sym (ap virtual_of (chosen_is Innermost Virtual p s i from)) in
      let g : meaning lent ≡ counts (sum_of length lent.links) (changes (Numbered n) f (meaning p)) =
      list_means (Numbered n) Virtual p s j to longer f _ p.cells (ap (λ (ls : List Link). with_kind Virtual (ls ++ vs) (in_slot p.extents p.links to.slot)) (list_links (Numbered n) Virtual p s j to)) refl refl in
      list_means Innermost Virtual lent lent_sound i from_lent [] (with_kind Virtual []) _ m refl handed_sum c
      ∙ ap (λ (z : Contents). counts (sum_of length p.links) (changes Innermost (with_kind Virtual []) z)) g
      ∙ same_contents refl (lent_is vs n.0 (meaning p).packed ∙ ap (λ (us : List Link). lend us n.0 (meaning p).packed) e) refl

  pub handed_is : (b : Bool) (ks : List (List Link)) → b ≡ (ltb j (length p.links) && (ltb i (length p.links) && not (eqb j i))) → ks ≡ cond b handed p.links → (b ≡ true) × (ks ≡ handed)
  handed_is b ks a e =
      let t : b ≡ true =
      a ∙ and_from (ltb j (length p.links)) _ (lt-ltb j (length p.links) (list_in (Numbered n) Virtual p s j to))
      (and_from (ltb i (length p.links)) (not (eqb j i)) (lt-ltb i (length p.links) (list_in Innermost Virtual p s i from)) (ap not (ne_eqb j i two_lists))) in
      (t, e ∙ cond-true b _ _ t)

  pub handed_both : true ≡ (is_some (first (meaning p).opened) && is_some (numbered (meaning p).packed n.0))
  handed_both = sym (ap (λ (o : Option Object). is_some o && is_some (numbered (meaning p).packed n.0)) (chosen_is Innermost Virtual p s i from) ∙ ap (λ (o : Option Object). is_some o) (chosen_is (Numbered n) Virtual p s j to))
