-- `decode` gives the query that its definition gives, which is valid.
use mathlib.Core.List.{[]}
use Rattle.std.proofs.Common.{rules}
use Rattle.decoder.specs.Decode.{decode}
use Rattle.decoder.proofs.Valid.{decode_valid}
use Rattle.decoder.proofs.decoding.decode.Goals as goal

pub returns-clause-valid : goal.returns-clause-valid
unfolding decode
returns-clause-valid c = decode_valid c.args.form c.args.file.now _ [] (search rules)
