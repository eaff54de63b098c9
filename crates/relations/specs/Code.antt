-- What the contracts of the code cite besides the definitions: what each function asks of its joins, and what it answers.
use Rattle.std.specs.Prelude.{ℕ, ◌+◌, ◌^◌, ◌≤◌, ◌<◌, ◌≡◌, Bool, true, false, not, ◌&&◌, List, Option, Some, None, eqb, length, get_or}
use Rattle.std.specs.Int.Bits.{bit_and}
use Rattle.relations.specs.declared.Joins.{Joins}
use Rattle.relations.specs.Sets.{Sub, put}
use Rattle.relations.specs.Growth.{first, second}
use Rattle.relations.specs.Trees.{side}

-- How many sets of relations the code's arrays have room for: those of nine relations.
abbrev pub most_sets : ℕ
most_sets = 512

-- At most eight joins, each between two of the relations: what refusals 2 and 3 leave.
pub record Drawn (J : Joins) : Type 0 where
  pub few : J.count ≤ 8
  pub first_in : (e : ℕ) → e < J.count → first J e < J.count + 1
  pub second_in : (e : ℕ) → e < J.count → second J e < J.count + 1

-- The first m of n entries are g 0, g 1, ..
pub record Listed (l : List ℕ) (g : ℕ → ℕ) (n m : ℕ) : Type 0 where
  pub long : length l ≡ n
  pub each : (i : ℕ) → i < m → get_or l i 0 ≡ g i

-- The sides of the first m joins.
abbrev pub SidesOf : Joins → List ℕ → ℕ → Type 0
SidesOf J l m = Listed l (side J (J.count + 1)) 8 m

-- The two relations of join e, as a set.
unfoldable pub ends_of : Joins → ℕ → ℕ
ends_of J e = put (2 ^ first J e) (second J e)

-- The two relations of each of the first m joins.
abbrev pub EndsOf : Joins → List ℕ → ℕ → Type 0
EndsOf J l m = Listed l (ends_of J) 8 m

-- The first relation of each of the first m joins, as a set.
abbrev pub FirstsOf : Joins → List ℕ → ℕ → Type 0
FirstsOf J l m = Listed l (λ (e : ℕ). 2 ^ first J e) 8 m

-- The ends M lead out of A within S: they lie in S, and A has one of them and not both.
unfoldable pub leads_out : (M S A : ℕ) → Bool
leads_out M S A = (eqb (bit_and S M) M && not (eqb (bit_and A M) 0)) && not (eqb (bit_and A M) M)

-- Join e is the skipped one; none may be skipped.
abbrev pub is_skipped : Option ℕ → ℕ → Bool
is_skipped (Some x) e = eqb e x
is_skipped None e = false

-- Join e, whose ends are listed, is not the skipped join and leads out of A within S.
abbrev pub leads_by : List ℕ → ℕ → Option ℕ → ℕ → ℕ → Bool
leads_by l S skip A e = not (is_skipped skip e) && leads_out (get_or l e 0) S A

-- Join e is the lowest that leads out.
pub record Leading (l : List ℕ) (S : ℕ) (skip : Option ℕ) (A e : ℕ) : Type 0 where
  pub in_list : e < length l
  pub below : (i : ℕ) → i < e → leads_by l S skip A i ≡ false
  pub leads : leads_by l S skip A e ≡ true

-- Which join is the lowest that leads out; none where none does.
abbrev pub FirstLeading : List ℕ → ℕ → Option ℕ → ℕ → Option ℕ → Type 0
FirstLeading l S skip A (Some e) = Leading l S skip A e
FirstLeading l S skip A None = (i : ℕ) → i < length l → leads_by l S skip A i ≡ false

-- What growth asks: the ends of all joins, a set of relations, and a part of it to grow from.
pub record Growable (J : Joins) (l : List ℕ) (S A : ℕ) : Type 0 where
  pub drawn : Drawn J
  pub ends : Listed l (ends_of J) J.count J.count
  pub in_all : S < 2 ^ (J.count + 1)
  pub taken_in : Sub A S

-- n where the test holds, else 0.
abbrev pub or_none : Bool → ℕ → ℕ
or_none true n = n
or_none false n = 0
