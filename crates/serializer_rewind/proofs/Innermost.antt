-- What is read of the innermost object, in the words of a snapshot.
use Rattle.std.proofs.Common.{◌≡◌, Option, arith}
use Rattle.std.specs.Option.{option_map, unwrap_or}
use Rattle.model.specs.State.{State}
use Rattle.model.specs.Rewinding.{open_slot, real_count, virtual_count}
use Rattle.objects.specs.declared.extents.Outline.{Outline}
use Rattle.objects.specs.Change.{first, outlined}

module _ (s : State) (o : Option Outline) (read : o ≡ option_map outlined (first s.opened)) where
  pub slot_read : option_map (λ (x : Outline). x.slot) o ≡ open_slot s
  slot_read = grind arith

  pub real_read : unwrap_or (option_map (λ (x : Outline). x.num_real_links) o) 0 ≡ real_count s.opened
  real_read = grind arith

  pub virtual_read : unwrap_or (option_map (λ (x : Outline). x.num_virtual_links) o) 0 ≡ virtual_count s.opened
  virtual_read = grind arith
