-- How the code's answer stands for the reading of a whole file.
use Rattle.std.specs.Prelude.{[], Result, Ok, Err}
use Rattle.query.specs.declared.Query.{Query}
use Rattle.query.specs.declared.refusal.Refusal.{Refusal}
use Rattle.query.specs.Refusals.{number_of}
use Rattle.sections.specs.Fields.{Read, refused, value}
use Rattle.decoder.specs.declared.decoding.Decoded.{Decoded}

-- A decoded file leaves nothing; a refused one has the number of its first refusal.
abbrev pub query_of : Result Decoded Refusal → Read Query
query_of (Ok d) = value d.query []
query_of (Err r) = refused (number_of r)
