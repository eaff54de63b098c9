-- A run keeps count of its steps and with it its room: a load brings a relation that was not loaded, a send adds at most the dearest line to a
-- figure, and a join at most the dearest join to a combination, which is no more than the sum.
use Prim.Native.Nat.{ℕ, suc, ◌+◌, ◌^◌, ◌<◌}
use mathlib.Core.Path.{◌≡◌}
use mathlib.Core.List.{List, ◌∷◌}
use native.Mathlib.Omega.{arith}
use lib.Count.{ones-le}
use lib.Pow.{pow_pos, pow-lt}
use Rattle.relations.specs.Sets.{bit}
use Rattle.relations.proofs.Bits.{single_apart}
use Rattle.relations.proofs.Counts.{ones_more}
use Rattle.relations.proofs.Unions.{sum_below}
use Rattle.query.specs.declared.Query.{Query}
use Rattle.query.specs.Query.{Valid, relations_of}
use Rattle.query.proofs.Prices.{line_most, join_most}
use Rattle.rules.specs.declared.Held.{Held}
use Rattle.rules.specs.Combine.{Combines}
use Rattle.rules.specs.Machine.{bare_of, sent_to, join_of, Machine, start, qualifies}
use Rattle.rules.specs.Code.{Room}
use Rattle.rules.proofs.Steps.{MayLoad, MaySend, MayJoin, Cases, step_case}
use Rattle.rules.proofs.Invariants.{Holds, Invariant}

-- A set of relations with one more of them.
pub more_below : (n S r : ℕ) → S < 2 ^ n → r < n → bit S r ≡ 0 → S + 2 ^ r < 2 ^ n
more_below n S r h l fresh = sum_below S (2 ^ r) n (single_apart S r fresh) h (pow-lt l)

pub start_room : (n : ℕ) → Room n 0 start
start_room n =
    let none = ones-le 0 0 (pow_pos 0) in
    record { in_all = pow_pos n; parts = omega arith; joins = 0; sends = 0; held = omega arith; steps = omega arith; small = omega arith; sited = tt }

module _ (combine : ℕ → ℕ → ℕ) (laws : Combines combine) (q : Query) (v : Valid q) where
  rooms : (i : ℕ) → Cases combine q (λ m o p. Room (relations_of q) i m → Holds (Room (relations_of q)) (suc i) o)
  rooms i = record { loads = loaded; sends = sent; joins = made; refuses = λ m k p room. tt }
    where
      loaded : (m : Machine) (r : ℕ) → MayLoad q m.loaded r → Room (relations_of q) i m →
          Room (relations_of q) (suc i) (record { loaded = m.loaded + 2 ^ r; stack = bare_of q r ∷ m.stack })
      loaded m r may room =
          record {
            in_all = more_below (relations_of q) m.loaded r room.in_all may.known may.fresh;
            parts = omega arith;
            joins = room.joins;
            sends = room.sends;
            held = omega (arith, ones_more m.loaded r may.fresh);
            steps = omega (arith, ones_more m.loaded r may.fresh);
            small = omega arith;
            sited = (omega (arith, v.homes r may.known, v.sites_most), room.sited);
          }

      sent : (L t : ℕ) (h : Held) (hs : List Held) → MaySend q t h → Room (relations_of q) i (record { loaded = L; stack = h ∷ hs }) →
          Room (relations_of q) (suc i) (record { loaded = L; stack = sent_to q t h ∷ hs })
      sent L t h hs may room =
          record {
            in_all = room.in_all;
            parts = room.parts;
            joins = room.joins;
            sends = suc room.sends;
            held = room.held;
            steps = omega arith;
            small = omega (arith, line_most q v h.set h.site t);
            sited = (omega (arith, may.listed, v.sites_most), room.sited.1);
          }

      made : (L e : ℕ) (a b : Held) (hs : List Held) → MayJoin q e a b → Room (relations_of q) i (record { loaded = L; stack = b ∷ (a ∷ hs) }) →
          Room (relations_of q) (suc i) (record { loaded = L; stack = join_of combine q a b ∷ hs })
      made L e a b hs may room =
          record {
            in_all = room.in_all;
            parts = omega arith;
            joins = suc room.joins;
            sends = room.sends;
            held = omega arith;
            steps = omega arith;
            small = omega (arith, laws.most a.figure.0 b.figure.0, join_most q v b.site (qualifies q a) a.set (qualifies q b) b.set);
            sited = (room.sited.0, room.sited.1.1);
          }

  pub step_room : Invariant combine q (Room (relations_of q))
  step_room i = step_case combine q _ (rooms i)
