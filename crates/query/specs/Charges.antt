-- Sizes at and beside full parcels, and at the limit, each with its parcels, with what a line of fixed amount 3 and rate 5 charges for it (rule 3.2),
-- and with what a site of fixed amount 2 and rate 1 charges for joining two operands of that size, both read, to a result of that size (rule 3.3).
-- And operands that qualify (rule 3.4). `charges_hold` and `qualified_hold` in proofs/ are their theorems.
use Rattle.std.specs.Prelude.{ℕ, Bool, true, false, ◌&&◌, List, [], ◌∷◌, eqb}
use Rattle.query.specs.Prices.{parcels, line_charge, reads, join_charge}

pub record Charged : Type 0 where
  pub size : ℕ
  pub started : ℕ
  pub sent : ℕ
  pub joined : ℕ

abbrev pub charges : List Charged
charges =
    record { size = 0; started = 0; sent = 3; joined = 2 }
    ∷ record { size = 1; started = 1; sent = 8; joined = 5 }
    ∷ record { size = 7; started = 1; sent = 8; joined = 23 }
    ∷ record { size = 8; started = 1; sent = 8; joined = 26 }
    ∷ record { size = 9; started = 2; sent = 13; joined = 29 }
    ∷ record { size = 15; started = 2; sent = 13; joined = 47 }
    ∷ record { size = 16; started = 2; sent = 13; joined = 50 }
    ∷ record { size = 17; started = 3; sent = 18; joined = 53 }
    ∷ record { size = 999_999_999; started = 125_000_000; sent = 625_000_003; joined = 2_999_999_999 }
    ∷ record { size = 1_000_000_000; started = 125_000_000; sent = 625_000_003; joined = 3_000_000_002 }
    ∷ []

abbrev pub holds : Charged → Bool
holds c =
    eqb (parcels c.size) c.started
    && (eqb (line_charge 3 5 c.size) c.sent && eqb (join_charge 2 1 (reads false c.size false c.size) c.size) c.joined)

abbrev pub every_holds : List Charged → Bool
every_holds [] = true
every_holds (c ∷ cs) = holds c && every_holds cs

-- Two operands, each with whether it qualifies and its size, and what a site of fixed amount 2 and rate 1 charges for joining them to a result of 3.
pub record Qualified : Type 0 where
  pub one : Bool
  pub first : ℕ
  pub other : Bool
  pub second : ℕ
  pub joined : ℕ

abbrev pub qualified : List Qualified
qualified =
    record { one = true; first = 10; other = true; second = 4; joined = 9 }
    ∷ record { one = true; first = 4; other = true; second = 10; joined = 9 }
    ∷ record { one = true; first = 5; other = true; second = 5; joined = 10 }
    ∷ record { one = true; first = 0; other = true; second = 0; joined = 5 }
    ∷ record { one = true; first = 0; other = true; second = 10; joined = 5 }
    ∷ record { one = true; first = 10; other = true; second = 0; joined = 5 }
    ∷ record { one = true; first = 1_000_000_000; other = true; second = 999_999_999; joined = 1_000_000_004 }
    ∷ record { one = true; first = 10; other = false; second = 4; joined = 9 }
    ∷ record { one = false; first = 10; other = true; second = 4; joined = 15 }
    ∷ record { one = false; first = 10; other = false; second = 4; joined = 19 }
    ∷ []

abbrev pub qualified_holds : Qualified → Bool
qualified_holds c = eqb (join_charge 2 1 (reads c.one c.first c.other c.second) 3) c.joined

abbrev pub every_qualified : List Qualified → Bool
every_qualified [] = true
every_qualified (c ∷ cs) = qualified_holds c && every_qualified cs
