-- The standing state: a query with its lines, or nothing.
use Rattle.std.proofs.Math.Option.{Option}
use Rattle.query.specs.declared.Query.{Query}

abbrev pub State : Type 0
State = Option Query
