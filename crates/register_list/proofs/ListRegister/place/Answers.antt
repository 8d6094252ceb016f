use Rattle.std.proofs.Common.{◌≡◌, ℕ, Ok, Err, Result, refl, rules}
use Rattle.register_list.specs.Rows.{Place}
use Rattle.register_list.proofs.Walk.{found_place, missing_place}
use Rattle.register_list.proofs.ListRegister.place.Goals as goal

by_result : (c : goal.After-unwrap_or_else) (r : Result ℕ ℕ) → c.find.result ≡ r → Place c.args.self.now.rows.items c.args.row c.unwrap_or_else.result
by_result c (Ok at) e =
    let h = rw e at c.unwrap_or_else.ensures in
    let s : c.unwrap_or_else.result ≡ at = search rules in
    rw s (found_place _ _ _ c.args.self.now.sorted (rw e at c.find.ensures.answer))
by_result c (Err at) e =
    let h = rw e at c.unwrap_or_else.ensures in
    let s : c.unwrap_or_else.result ≡ at = search rules in
    rw s (missing_place _ _ _ (rw e at c.find.ensures.answer))

pub returns : goal.returns
returns c = record { answer = by_result c _ refl }
