-- `number` folds the bytes from the last one on.
use mathlib.Core.Path.{◌≡◌, ◌∙◌}
use Rattle.std.specs.Prelude.{reverse}
use Rattle.std.specs.List.{fold}
use Rattle.std.proofs.Common.{rules}
use Rattle.std.proofs.iter.runs.Made.{chains}
use Rattle.sections.proofs.Parts.{with_byte, number_folded, number_below}
use Rattle.sections.proofs.fields.number.Goals as goal

pub returns : goal.returns
returns c =
    let folded : c.fold.result ≡ fold with_byte 0 (reverse c.args.bytes.now) = search (rules, chains) in
    let value = folded ∙ number_folded c.args.bytes.now c.type_inv.bytes c.requires in
    record { value = value; small = rw value (number_below c.args.bytes.now c.type_inv.bytes) }
