-- Two lists of links compared: their lengths, and then link by link.
use Rattle.std.proofs.Common.{◌≡◌, ℕ, ◌<◌, ◌≤◌, Bool, false, List, Option, length, vec_len, Decides, sym, refl, ap, ◌∙◌, subst, arith}
use Rattle.std.proofs.lemmas.Bool.{false≢true}
use Rattle.std.proofs.lemmas.Iterator.{YieldsList}
use Rattle.std.proofs.lemmas.Iterator.Consumers.{YieldsList-from_shown}
use Rattle.link.specs.declared.Link.{Link}
use Rattle.links.specs.declared.chains.Chain.{Chain}
use Rattle.links.specs.declared.state.Links.{Links}
use Rattle.links.specs.declared.state.iters.LinkIter.{LinkIter}
use Rattle.links.specs.Meaning.{list_at, Same}
use Rattle.links.specs.Rest.{rest, Step}
use Rattle.links.proofs.Reading.{At, lists_length, list_length}

abbrev pub steps : LinkIter → Option Link → LinkIter → Type 0
steps s r t = Step (rest s) r (rest t)

-- a way through a list gives its links
pub on_way : {s : LinkIter} (xs : List Link) → rest s ≡ xs → YieldsList steps (λ y. y) s xs
on_way {s} xs e = subst (YieldsList steps (λ y. y) s) e (YieldsList-from_shown steps (λ y. y) rest (λ t u h. ap length h.0) (λ t x u h. h) s)

decides_no : {P : Type 0} (r : Bool) → r ≡ false → (P → ⊥) → Decides r P
decides_no r e h = ((λ t. absurd (false≢true (sym e ∙ t))), (λ p. absurd (h p)))

pub not_first : (s : Links) (a b : ℕ) → vec_len s.chains ≤ a → Decides false (Same s a b)
not_first s a b h = decides_no false refl (λ e. omega (arith, e.0, lists_length s))

pub not_second : (s : Links) (a b : ℕ) → vec_len s.chains ≤ b → Decides false (Same s a b)
not_second s a b h = decides_no false refl (λ e. omega (arith, e.1, lists_length s))

pub not_as_long : (s : Links) (a b : ℕ) (x y : Chain) → At s a x → At s b y → (x.count ≡ y.count → ⊥) → Decides false (Same s a b)
not_as_long s a b x y at_a at_b ne = decides_no false refl (λ e. ne (sym (list_length s a x at_a) ∙ ap length e.2 ∙ list_length s b y at_b))

pub both : (s : Links) (a b : ℕ) (r : Bool) → a < vec_len s.chains → b < vec_len s.chains → Decides r (list_at s a ≡ list_at s b) → Decides r (Same s a b)
both s a b r ha hb d = ((λ e. (omega (arith, lists_length s), omega (arith, lists_length s), d.0 e)), (λ e. d.1 e.2))
