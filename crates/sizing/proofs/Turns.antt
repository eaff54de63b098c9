-- What the code leans on as it goes over joins and relations: each is one step of the definition that it computes.
use Prim.Native.Nat.{ℕ, zero, suc, ◌+◌, ◌-◌, ◌^◌, ◌≤◌, ◌<◌}
use native.Mathlib.Numerals.{add-one}
use native.Mathlib.Omega.{arith}
use mathlib.Core.Path.{◌≡◌, refl, sym, ◌∙◌}
use mathlib.Core.List.{List}
use lib.Bits.{bit_or}
use lib.Count.{count_trailing_zeros}
use lib.ListN.{length, get_or, take}
use lib.Seq.{take-length}
use Rattle.std.specs.List.{fold}
use Rattle.std.proofs.lemmas.List.Sums.{fold_more}
use Rattle.relations.specs.Code.{Drawn, Listed, EndsOf, ends_of}
use Rattle.relations.proofs.Listed.{listed_front}
use Rattle.relations.specs.declared.Joins.{Joins}
use Rattle.relations.specs.Sets.{bit, all, lowest}
use Rattle.relations.proofs.Bits.{le_of_sub, sub_single}
use Rattle.relations.proofs.Counts.{lowest_same}
use Rattle.sizing.specs.Code.{other_end, neighbours_below, neighbours, above}
use Rattle.sizing.proofs.Members.{above_fits}

-- Where relation r is one of a join's ends, it can be taken from them.
module _ (M r b : ℕ) (is : b ≡ bit M r) where
  pub end_there : (one : ℕ) → one ≡ 2 ^ r → b ≡ 1 → one ≤ M
  end_there one e h = omega (arith, le_of_sub (2 ^ r) M (sub_single M r (sym is ∙ h)))

-- The neighbours by the first m of the listed ends, and by all.
module _ (r : ℕ) (l : List ℕ) where
  abbrev added : ℕ → ℕ → ℕ
  added near M = bit_or near (other_end M r)

  near_first : (m : ℕ) → m ≤ length l → fold added 0 (take m l) ≡ neighbours_below (λ (e : ℕ). get_or l e 0) r m
  unfolding neighbours_below
  near_first zero h = refl
  near_first (suc m) h = rw add-one at (fold_more added 0 l m 0 (omega arith)) ∙ rw (near_first m (omega arith))

  pub near_folded : fold (λ (near M : ℕ). bit_or near (other_end M r)) 0 l ≡ neighbours_below (λ (e : ℕ). get_or l e 0) r (length l)
  near_folded = rw take-length at (near_first (length l) (omega arith))

-- The same ends have the same neighbours.
near_same : (f g : ℕ → ℕ) (r m : ℕ) → ((e : ℕ) → e < m → f e ≡ g e) → neighbours_below f r m ≡ neighbours_below g r m
unfolding neighbours_below
near_same f g r zero h = refl
near_same f g r (suc m) h = rw (near_same f g r m (λ e l. h e (omega arith)), h m (omega arith))

-- The lowest relation of a set by its word of 64 bits, and what is above it.
module _ (n S : ℕ) (few : n ≤ 9) (some : 0 < S) (low : S < 2 ^ n) where
  pub low_is : count_trailing_zeros 64 S ≡ lowest n S
  low_is = sym (lowest_same n 64 S some low (omega arith))

  pub above_there : (one every : ℕ) → one ≡ 2 ^ count_trailing_zeros 64 S → every ≡ all n → one - 1 ≤ every - S
  above_there one every e q = rw (e, q, low_is) (above_fits n S some low)

  pub above_by : (one every : ℕ) → one ≡ 2 ^ count_trailing_zeros 64 S → every ≡ all n → every - S - (one - 1) ≡ above n S
  unfolding above
  above_by one every e q = rw (e, q, low_is)

-- The neighbours of all relations.
pub near_all :
    (J : Joins) (ends l : List ℕ) → Drawn J → EndsOf J ends J.count →
    Listed l (λ (r : ℕ). neighbours_below (λ (e : ℕ). get_or (take J.count ends) e 0) r (length (take J.count ends))) 9 9 → Listed l (neighbours J) 9 (J.count + 1)
near_all J ends l d a n = record { long = n.long; each = λ r h. n.each r (omega (arith, d.few)) ∙ each r }
  where
    front : Listed (take J.count ends) (ends_of J) J.count J.count
    front = listed_front ends (ends_of J) 8 J.count a d.few

    each : (r : ℕ) → neighbours_below (λ (e : ℕ). get_or (take J.count ends) e 0) r (length (take J.count ends)) ≡ neighbours J r
    each r = rw front.long (near_same (λ (e : ℕ). get_or (take J.count ends) e 0) (ends_of J) r J.count front.each)
