-- What is proved of the prices. The proofs are in proofs/.
use Rattle.std.specs.Prelude.{ℕ, ◌+◌, ◌-◌, ◌*◌, ◌≤◌, ◌≡◌, Bool}
use Rattle.query.specs.declared.Query.{Query}
use Rattle.query.specs.Query.{Valid}
use Rattle.query.specs.Prices.{parcels, line_price, join_price, reads, dearest_line, dearest_join}
use Rattle.query.specs.Spared.{spareable, spared}

-- The parcels of a size are just enough: they hold it, and fewer do not.
pub record ParcelsOf (size : ℕ) : Type 0 where
  pub enough : size ≤ 8 * parcels size
  pub least : (p : ℕ) → size ≤ 8 * p → parcels size ≤ p

abbrev pub ParcelsLaw : Type 0
ParcelsLaw = (size : ℕ) → ParcelsOf size

-- No line's price is above that of the dearest line, no join's above that of the dearest join.
abbrev pub LineMost : Type 0
LineMost = (q : Query) → Valid q → (P a b : ℕ) → line_price q P a b ≤ dearest_line

abbrev pub JoinMost : Type 0
JoinMost = (q : Query) → Valid q → (k : ℕ) (a : Bool) (P : ℕ) (b : Bool) (R : ℕ) → join_price q k a P b R ≤ dearest_join

-- The reads are both sizes, less the larger of what the operands' indexes can spare.
abbrev pub ReadsSpared : Type 0
ReadsSpared = (a : Bool) (x : ℕ) (b : Bool) (y : ℕ) → reads a x b y ≡ x + y - spared (spareable a x) (spareable b y)

-- The order of a join's operands does not matter to their reads.
abbrev pub ReadsEither : Type 0
ReadsEither = (a : Bool) (x : ℕ) (b : Bool) (y : ℕ) → reads a x b y ≡ reads b y a x
