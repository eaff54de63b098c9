-- The writer's calls, one after the other: what each call asks follows from what its caller was asked, and what the calls leave together is what the
-- caller promises.
use Prim.Native.Nat.{ℕ, ◌+◌, ◌*◌, ◌≤◌, ◌<◌}
use native.Mathlib.Omega.{arith}
use mathlib.Core.Path.{◌≡◌, refl}
use mathlib.Core.List.{List, [], ◌∷◌, ◌++◌}
use lib.Count.{ones, count_trailing_zeros, trailing_le}
use lib.ListN.{length}
use Rattle.relations.specs.declared.splitting.Parts.{Parts}
use Rattle.relations.specs.Code.{most_sets}
use Rattle.relations.specs.Splits.{parts_by}
use Rattle.query.specs.declared.Query.{Query}
use Rattle.query.proofs.Indexed.{one_of_nine}
use Rattle.rules.specs.Combine.{Combines}
use Rattle.tables.specs.Written.{send_steps, written_delivered, written_joined, step_bytes}
use Rattle.board.specs.Board.{side_at, homes_at, sites_at}
use Rattle.filler.specs.Trials.{Lent, size_in, cell_in}
use Rattle.sender.specs.Delivering.{Carriable}
use Rattle.filler.specs.Cells.{place_in}
use Rattle.router.specs.Routing.{carriage_in, route_in, Carried}
use Rattle.solver.specs.declared.writing.Due.{Due}
use Rattle.router.specs.Wrote.{Wrote}
use Rattle.solver.specs.Writing.{due_of, site_by, join_by, ToDeliver, ToJoin}
use Rattle.router.proofs.Stores.{wrote_then, room_first, room_next}
use Rattle.solver.proofs.Choices.{known_low, carriable}
use Rattle.solver.proofs.PlanBytes.{home_listed, one_bytes, one_carried, more_join, more_bytes, more_carried, Parted, parted}

-- The place of a relation is a byte.
pub one_few : (S : ℕ) → count_trailing_zeros 64 S < 256
one_few S = omega (arith, trailing_le 64 S)

module _ (combine : ℕ → ℕ → ℕ) (C : Combines combine) (l : Lent) where
  abbrev delivered_bytes : Query → ℕ → ℕ → List ℕ
  delivered_bytes q S t = step_bytes (written_delivered combine q S t)

  abbrev joined_bytes : Query → ℕ → ℕ → List ℕ
  joined_bytes q S k = step_bytes (written_joined combine q S k)

  -- What the writer of a subquery is asked, and what it leaves: the steps of every query that is laid out so.
  abbrev Delivering : (S t c at : ℕ) → List ℕ → Type 0
  Delivering S t c at old = (q : Query) × (ToDeliver combine q l S t c × (at + length (delivered_bytes q S t) ≤ length old))

  abbrev Delivers : (S t c at : ℕ) → List ℕ → ℕ → List ℕ → Type 0
  Delivers S t c at old r new = (q : Query) → ToDeliver combine q l S t c → Wrote old at (delivered_bytes q S t) r new

  abbrev Joining : (S k at : ℕ) → List ℕ → Type 0
  Joining S k at old = (q : Query) × (ToJoin combine q l S k × (at + length (joined_bytes q S k) ≤ length old))

  abbrev Joins : (S k at : ℕ) → List ℕ → ℕ → List ℕ → Type 0
  Joins S k at old r new = (q : Query) → ToJoin combine q l S k → Wrote old at (joined_bytes q S k) r new

  -- What is due, by its parts.
  pub due_delivers : (S t c at : ℕ) (d : Due) (old : List ℕ) (r : ℕ) (new : List ℕ) → d ≡ due_of S t c → Delivers d.set d.site d.figure at old r new → Delivers S t c at old r new
  due_delivers S t c at d old r new e w = rw e at w

  pub set_low : (S t c : ℕ) (q : Query) → ToDeliver combine q l S t c → S < most_sets
  set_low S t c q d = known_low combine C q l S d.known

  pub set_carriable : (S t c x : ℕ) → x ≡ size_in l S → (q : Query) → ToDeliver combine q l S t c → Carriable l.board x
  set_carriable S t c x size q d = carriable combine C q l S d.known x size

  pub one_low : (S t c : ℕ) (q : Query) → ToDeliver combine q l S t c → ones S ≡ 1 → count_trailing_zeros 64 S < 9
  one_low S t c q d one = one_of_nine S one (known_low combine C q l S d.known)

  pub last_low : (S k e : ℕ) (q : Query) → ToJoin combine q l S k → e ≡ join_by combine l S k → e < 8
  last_low S k e q j last = (parted combine C q l S k j e _ _ last refl refl).join_low

  -- One relation: its load, then the sends that are due.
  module _ (S t c at homes : ℕ) (old : List ℕ) (one : ones S ≡ 1) (homes-are : homes ≡ homes_at l.board (count_trailing_zeros 64 S)) where
    abbrev load : List ℕ
    load = 1 ∷ (count_trailing_zeros 64 S ∷ [])

    abbrev sent : List ℕ
    sent = step_bytes (send_steps (route_in l.board (size_in l S) (count_trailing_zeros 64 homes) t))

    in_two : (q : Query) → ToDeliver combine q l S t c → delivered_bytes q S t ≡ load ++ sent
    in_two q d = one_bytes combine C q l S t c d one homes homes-are

    pub load_room : (q : Query) → ToDeliver combine q l S t c → at + length (delivered_bytes q S t) ≤ length old → at + 2 ≤ length old
    load_room q d room = room_first old load sent _ at (in_two q d) room

    module _ (mid : List ℕ) (r : ℕ) (w : Wrote old at load r mid) (x : ℕ) (size : x ≡ size_in l S) where
      pub sent_asked : (p : Delivering S t c at old) →
          (((count_trailing_zeros 64 homes < sites_at l.board) × (t < sites_at l.board)) × Carried l.board x (count_trailing_zeros 64 homes) t c)
          × (r + length (step_bytes (send_steps (route_in l.board x (count_trailing_zeros 64 homes) t))) ≤ length mid)
      sent_asked (q, (d, room)) =
          let laid = d.known.laid in (
            (
              (omega (arith, laid.board.sites, home_listed combine C q l S t c d one homes homes-are), omega (arith, laid.board.sites, d.listed)),
              rw size (one_carried combine C q l S t c d one homes homes-are),
            ),
            rw size (room_next old mid load sent _ at r (in_two q d) room w),
          )

      pub one_delivers : (new : List ℕ) (s : ℕ) → Wrote mid r (step_bytes (send_steps (route_in l.board x (count_trailing_zeros 64 homes) t))) s new → Delivers S t c at old s new
      one_delivers new s y q d = wrote_then old mid new load sent _ at r s w (rw size at y) (in_two q d)

  -- Two relations or more: its join at the best site, then the sends that are due.
  module _ (S t c at k : ℕ) (old : List ℕ) (more : ones S ≡ 1 → ⊥) (chosen : k ≡ site_by combine l S t) where
    abbrev sent_on : List ℕ
    sent_on = step_bytes (send_steps (route_in l.board (size_in l S) k t))

    to_join : (q : Query) → ToDeliver combine q l S t c → ToJoin combine q l S k
    to_join q d = more_join combine C q l S t c k d more chosen

    in_parts : (q : Query) → ToDeliver combine q l S t c → delivered_bytes q S t ≡ joined_bytes q S k ++ sent_on
    in_parts q d = more_bytes combine C q l S t c k d more chosen

    pub join_asked : (n : ℕ) → (2 * ones S + 1 ≡ n) × Delivering S t c at old → (2 * ones S < n) × Joining S k at old
    join_asked n (is, (q, (d, room))) = (omega arith, (q, (to_join q d, room_first old (joined_bytes q S k) sent_on _ at (in_parts q d) room)))

    module _ (mid : List ℕ) (r : ℕ) (w : Joins S k at old r mid) (x : ℕ) (size : x ≡ size_in l S) where
      pub sent_on_asked : (p : Delivering S t c at old) (y : ℕ) → y ≡ carriage_in l.board (size_in l S) k t →
          (((k < sites_at l.board) × (t < sites_at l.board)) × Carried l.board x k t y) × (r + length (step_bytes (send_steps (route_in l.board x k t))) ≤ length mid)
      sent_on_asked (q, (d, room)) y carried =
          let laid = d.known.laid in (
            ((omega (arith, laid.board.sites, (to_join q d).listed), omega (arith, laid.board.sites, d.listed)), rw size (more_carried combine C q l S t c k d more chosen y carried)),
            rw size (room_next old mid (joined_bytes q S k) sent_on _ at r (in_parts q d) room (w q (to_join q d))),
          )

      pub more_delivers : (new : List ℕ) (s : ℕ) → Wrote mid r (step_bytes (send_steps (route_in l.board x k t))) s new → Delivers S t c at old s new
      more_delivers new s y q d = wrote_then old mid new (joined_bytes q S k) sent_on _ at r s (w q (to_join q d)) (rw size at y) (in_parts q d)

  -- A join: the part on its first relation's side, the rest, and the join itself.
  module _ (S k at e side : ℕ) (parts : Parts) (old : List ℕ) (last : e ≡ join_by combine l S k) (side_is : side ≡ side_at l.board e)
      (parts_are : parts ≡ parts_by S side) where
    abbrev P : ℕ
    P = parts.first

    abbrev R : ℕ
    R = parts.second

    abbrev join : List ℕ
    join = 3 ∷ (e ∷ [])

    abbrev rest : Query → List ℕ
    rest q = delivered_bytes q R k ++ join

    split : (q : Query) → ToJoin combine q l S k → Parted combine C q l S k e P R
    split q j = parted combine C q l S k j e side parts last side_is parts_are

    pub parts_in : Joining S k at old → ((P < most_sets) × (place_in l.places P k < length l.work)) × ((R < most_sets) × (place_in l.places R k < length l.work))
    parts_in (q, (j, room)) = ((split q j).first_in, (split q j).second_in)

    pub joined_low : Joining S k at old → k < 8
    joined_low (q, (j, room)) = omega (arith, j.listed, j.known.laid.valid.sites_most)

    part_asked : (n : ℕ) → (2 * ones S ≡ n) × Joining S k at old → (2 * ones P + 1 < n) × Delivering P k (cell_in l P k) at old
    part_asked n (is, (q, (j, room))) =
        (omega (arith, (split q j).first_fewer), (q, ((split q j).first, room_first old (delivered_bytes q P k) (rest q) _ at (split q j).bytes room)))

    pub part_due : (n : ℕ) (d : Due) → d ≡ due_of P k (cell_in l P k) → (2 * ones S ≡ n) × Joining S k at old → (2 * ones d.set + 1 < n) × Delivering d.set d.site d.figure at old
    part_due n d e h = rw e (part_asked n h)

    module _ (mid : List ℕ) (r : ℕ) (w : Delivers P k (cell_in l P k) at old r mid) where
      left : (p : Joining S k at old) → r + length (rest p.0) ≤ length mid
      left (q, (j, room)) = room_next old mid (delivered_bytes q P k) (rest q) _ at r (split q j).bytes room (w q (split q j).first)

      rest_asked : (n : ℕ) → (2 * ones S ≡ n) × Joining S k at old → (2 * ones R + 1 < n) × Delivering R k (cell_in l R k) r mid
      rest_asked n (is, (q, (j, room))) =
          (omega (arith, (split q j).second_fewer), (q, ((split q j).second, room_first mid (delivered_bytes q R k) join (rest q) r refl (left (q, (j, room))))))

      pub rest_due : (n : ℕ) (d : Due) → d ≡ due_of R k (cell_in l R k) → (2 * ones S ≡ n) × Joining S k at old → (2 * ones d.set + 1 < n) × Delivering d.set d.site d.figure r mid
      rest_due n d e h = rw e (rest_asked n h)

      module _ (late : List ℕ) (s : ℕ) (x : Delivers R k (cell_in l R k) r mid s late) where
        pub last_asked : Joining S k at old → (s + 2 ≤ length late) × (e < 256)
        last_asked (q, (j, room)) =
            (room_next mid late (delivered_bytes q R k) join (rest q) r s refl (left (q, (j, room))) (x q (split q j).second), omega (arith, (split q j).join_low))

        pub joins : (new : List ℕ) (end : ℕ) → Wrote late s join end new → Joins S k at old end new
        joins new end y q j =
            let d = split q j in
            wrote_then old mid new (delivered_bytes q P k) (rest q) _ at r end (w q d.first)
            (wrote_then mid late new (delivered_bytes q R k) join _ r s end (x q d.second) y refl) d.bytes
