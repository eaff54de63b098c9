-- `State::load` meets its contract: a relation that is not loaded leaves a free entry. Assumes nothing.
use Rattle.std.proofs.Common.{◌≡◌, ℕ, ◌+◌, ◌^◌, ◌≤◌, ◌<◌, length, sym, ◌∙◌, arith}
use Rattle.std.proofs.lemmas.List.{length-reverse}
use lib.Count.{ones-le}
use Rattle.relations.specs.Sets.{bit}
use Rattle.relations.proofs.Counts.{ones_more}
use Rattle.rules.specs.Machine.{Machine}
use Rattle.rules.specs.Code.{Room, entries}
use Rattle.rules.proofs.Counting.{more_below}
use Rattle.rules.proofs.State.load.Goals as goal

entry_free : (n i : ℕ) (m : Machine) → n ≤ 9 → Room n i m → (r : ℕ) → r < n → bit m.loaded r ≡ 0 → length m.stack < 9
entry_free n i m few room r l fresh =
    omega (arith, ones_more m.loaded r fresh, ones-le n (m.loaded + 2 ^ r) (more_below n m.loaded r room.in_all l fresh))

pub push-requires : goal.push-requires
push-requires c =
    let free = entry_free _ _ _ c.requires.0.relations_most c.requires.1 c.args.r c.if-q-r.false (sym c.bit.ensures.value ∙ c.if-bit-ne0.false) in
    omega (arith, free, length-reverse (entries c.args.self.now.stack))
