use Rattle.std.proofs.Common.{true, false, Some, None, vec_items, vec_len, sym, ◌∙◌, arith}
use Rattle.std.proofs.lemmas.Bool.{lt-ltb, le-ltb}
use Rattle.objects.specs.Contents.{parts, contents}
use Rattle.objects.proofs.Sound.{sound, used_blank, kept}
use Rattle.objects.proofs.Stack.{pop_is, popped_released, loose_released, released_blank}
use Rattle.objects.proofs.Release.{old_free, old_next, old_taken, same_released, new_sound, new_loose, new_free, new_next, new_taken}
use Rattle.objects.proofs.state.Objects.take_slot.Goals as goal

pub invariant_of-self : goal.invariant_of-self
invariant_of-self c =
    let s = c.args.self.now in
    let i = c.in-Some.ensures in
    let w = popped_released (parts s) (sound s) (vec_items c.pop.new.self) (Some c.in-Some.slot) i.items in
    kept _ _ w (s.reserved.0, s.reserved.1, omega (arith, s.reserved.2, i.capacity))

pub invariant_of-self-then-self-len : goal.invariant_of-self-then-self-len
invariant_of-self-then-self-len c =
    let s = c.args.self.now in
    let n = pop_is _ _ _ _ None s.released.ok.0 c.pop.new.self.ok.0 c.in_default.ensures.items c.in_default.ensures.cases in
    let w = popped_released (parts s) (sound s) (vec_items c.pop.new.self) None n in
    kept _ _ w (s.reserved.0, s.reserved.1, omega (arith, s.reserved.2, c.in_default.ensures.capacity))

pub invariant_of-self-2 : goal.invariant_of-self-2
invariant_of-self-2 c =
    let s = c.args.self.now in
    let n = pop_is _ _ _ _ None s.released.ok.0 c.pop.new.self.ok.0 c.in_default.ensures.items c.in_default.ensures.cases in
    let w = new_sound (parts s) (vec_items c.pop.new.self) (sound s) (omega (arith, c.len.ensures)) (n.1 ∙ sym n.0) in
    kept _ _ w (s.reserved.0, s.reserved.1, omega (arith, s.reserved.2, c.in_default.ensures.capacity))

pub returns-in-Some : goal.returns-in-Some
unfolding contents
returns-in-Some c =
    let s = c.args.self.now in
    let ys = vec_items c.pop.new.self in
    let x = c.in-Some.slot in
    let e = c.in-Some.ensures.items in
    record {
      free = old_free (parts s) ys x e;
      answer = old_next (parts s) ys x e;
      state = old_taken (parts s) ys x e;
      loose = loose_released (parts s) ys x (sound s) e;
      blank = released_blank (parts s) ys x (sound s) e;
    }

pub returns-then-self-len : goal.returns-then-self-len
unfolding contents
returns-then-self-len c =
    let s = c.args.self.now in
    let ys = vec_items c.pop.new.self in
    let n = pop_is _ _ _ _ None s.released.ok.0 c.pop.new.self.ok.0 c.in_default.ensures.items c.in_default.ensures.cases in
    record {
      free = new_free (parts s) ys n.0 false (le-ltb s.used (vec_len s.extents) (omega (arith, c.len.ensures)));
      answer = tt;
      state = same_released (parts s) ys (n.1 ∙ sym n.0);
      loose = tt;
      blank = tt;
    }

pub returns : goal.returns
unfolding contents
returns c =
    let s = c.args.self.now in
    let ys = vec_items c.pop.new.self in
    let n = pop_is _ _ _ _ None s.released.ok.0 c.pop.new.self.ok.0 c.in_default.ensures.items c.in_default.ensures.cases in
    record {
      free = new_free (parts s) ys n.0 true (lt-ltb s.used (vec_len s.extents) (omega (arith, c.len.ensures)));
      answer = new_next (parts s) ys n.0;
      state = new_taken (parts s) ys n.0 n.1;
      loose = new_loose (parts s) ys (sound s) (n.1 ∙ sym n.0);
      blank = used_blank (parts s) (sound s);
    }
