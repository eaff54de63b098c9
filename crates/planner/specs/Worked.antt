-- The calls on Q (rule 10.1), worked out: first one after another from an empty planner, each in the state that the last one left; then the
-- refusals. `worked` in proofs/ computes them all from the definitions of the calls.
use Rattle.std.specs.Prelude.{ℕ, ◌≡◌, List, [], ◌∷◌, ◌++◌, length, take, drop, set, replicate}
use Rattle.std.proofs.Math.Option.{none, some}
use Rattle.query.specs.declared.Query.{Query}
use Rattle.sections.specs.Fields.{value}
use Rattle.decoder.specs.declared.Form.TheVariants as form
use Rattle.decoder.specs.Decode.{decode}
use Rattle.files.specs.Ordinary.{ordinary}
use Rattle.tables.specs.Rows.{Q, with_lines, closing}
use Rattle.planner.specs.Done.{done_with}
use Rattle.planner.specs.Load as Load
use Rattle.planner.specs.Link as Link
use Rattle.planner.specs.Link.{link_of}
use Rattle.planner.specs.Solve as Solve
use Rattle.planner.specs.Solve.{solving_of}
use Rattle.planner.specs.Check as Check

-- Q's file, byte by byte.
abbrev pub q_bytes : List ℕ
q_bytes =
    -- Sites, count 3: each may join, fixed 2, rate 1.
    3
    ∷ 1 ∷ 2 ∷ 0 ∷ 0 ∷ 0 ∷ 1 ∷ 0 ∷ 0 ∷ 0
    ∷ 1 ∷ 2 ∷ 0 ∷ 0 ∷ 0 ∷ 1 ∷ 0 ∷ 0 ∷ 0
    ∷ 1 ∷ 2 ∷ 0 ∷ 0 ∷ 0 ∷ 1 ∷ 0 ∷ 0 ∷ 0
    -- Relations, count 2: relation 0 at site 0, relation 1 at site 1, no index.
    ∷ 2
    ∷ 0 ∷ 0
    ∷ 1 ∷ 0
    -- Joins, count 1: join 0 links 0 and 1.
    ∷ 1
    ∷ 0 ∷ 1
    -- Sizes, count 3: 10, 4, 3.
    ∷ 3 ∷ 0
    ∷ 10 ∷ 0 ∷ 0 ∷ 0 ∷ 4 ∷ 0 ∷ 0 ∷ 0 ∷ 3 ∷ 0 ∷ 0 ∷ 0
    -- Lines, count 6: each open, fixed 1, rate 1.
    ∷ 6
    ∷ 1 ∷ 1 ∷ 0 ∷ 0 ∷ 0 ∷ 1 ∷ 0 ∷ 0 ∷ 0
    ∷ 1 ∷ 1 ∷ 0 ∷ 0 ∷ 0 ∷ 1 ∷ 0 ∷ 0 ∷ 0
    ∷ 1 ∷ 1 ∷ 0 ∷ 0 ∷ 0 ∷ 1 ∷ 0 ∷ 0 ∷ 0
    ∷ 1 ∷ 1 ∷ 0 ∷ 0 ∷ 0 ∷ 1 ∷ 0 ∷ 0 ∷ 0
    ∷ 1 ∷ 1 ∷ 0 ∷ 0 ∷ 0 ∷ 1 ∷ 0 ∷ 0 ∷ 0
    ∷ 1 ∷ 1 ∷ 0 ∷ 0 ∷ 0 ∷ 1 ∷ 0 ∷ 0 ∷ 0
    -- Delivery, count 1: site 0.
    ∷ 1 ∷ 0 ∷ []

-- Q from row counts: in place of the sizes rows 10 and 4, and divisor 16, by which 10 × 4 comes to 3.
abbrev pub q_rows : List ℕ
q_rows = take 36 q_bytes ++ ((2 ∷ 10 ∷ 0 ∷ 0 ∷ 0 ∷ 4 ∷ 0 ∷ 0 ∷ 0 ∷ 1 ∷ 16 ∷ 0 ∷ 0 ∷ 0 ∷ []) ++ drop 50 q_bytes)

-- The plan that the pinned table prints: load 0, load 1, send 0, join 0.
abbrev pub q_plan : List ℕ
q_plan = 4 ∷ 1 ∷ 0 ∷ 1 ∷ 1 ∷ 2 ∷ 0 ∷ 3 ∷ 0 ∷ []

-- Row 5, the line from 1 to 0 closed, and its plan: load 0, send 2, load 1, send 2, join 0, send 0. Row 6, the line from 2 to 0 closed too.
abbrev pub row5 : Query
row5 = with_lines (closing 1 0 Q.lines) Q

abbrev pub row5_plan : List ℕ
row5_plan = 5 ∷ 1 ∷ 0 ∷ 1 ∷ 1 ∷ 2 ∷ 2 ∷ 2 ∷ 0 ∷ 3 ∷ 0 ∷ []

abbrev pub row6 : Query
row6 = with_lines (closing 2 0 row5.lines) Q

pub record Worked : Type 0 where
  -- The file has 107 bytes, and what it holds is Q, nothing left.
  pub q_length : length q_bytes ≡ 107
  pub q_decoded : decode form.Sizes q_bytes ≡ value Q []
  -- Q's file is the ordinary one of what comes of its row counts.
  pub q_ordinary : ordinary Q q_rows ≡ q_bytes
  -- From an empty planner: load, from row counts too; solve in 9 cells, which are just enough, into 12 bytes, whose rest stays, and in more cells into 9
  -- bytes, which are just enough; check.
  pub load_q : Load.load q_bytes none ≡ done_with (Load.loaded 2 3) (some Q)
  pub load_rows_q : Load.load_rows q_rows none ≡ done_with (Load.loaded 2 3) (some Q)
  pub solve_q : Solve.solve 9 (replicate 12 7) (some Q) ≡ solving_of (Solve.found 21 9 3) (q_plan ++ (7 ∷ 7 ∷ 7 ∷ []))
  pub solve_q_just : Solve.solve 5_000 (replicate 9 7) (some Q) ≡ solving_of (Solve.found 21 9 3) q_plan
  pub check_q : Check.check q_plan (some Q) ≡ Check.allowed 21
  -- The line from 1 to 0 is closed: the plan is no longer allowed, and solve writes row 5's over it.
  pub link_row5 : Link.link (link_of 1 0 0 1 1) (some Q) ≡ done_with Link.linked (some row5)
  pub check_row5 : Check.check q_plan (some row5) ≡ Check.refused 10 2
  pub solve_row5 : Solve.solve 9 (q_plan ++ replicate 4 7) (some row5) ≡ solving_of (Solve.found 23 11 3) (row5_plan ++ replicate 2 7)
  -- The line from 2 to 0 is closed too: no route, whatever the output's length. Or Q is loaded again.
  pub link_row6 : Link.link (link_of 2 0 0 1 1) (some row5) ≡ done_with Link.linked (some row6)
  pub solve_row6 : Solve.solve 9 row5_plan (some row6) ≡ solving_of (Solve.no_route 3) row5_plan
  pub solve_row6_short : Solve.solve 9 [] (some row6) ≡ solving_of (Solve.no_route 3) []
  pub load_again : Load.load q_bytes (some row5) ≡ done_with (Load.loaded 2 3) (some Q)
  -- Refused by the state, which comes before the input: nothing loaded.
  pub link_20 : Link.link (link_of 3 3 2 0 0) none ≡ done_with (Link.refused 20) none
  pub solve_20 : Solve.solve 0 (7 ∷ []) none ≡ solving_of (Solve.refused 20) (7 ∷ [])
  pub check_20 : Check.check [] none ≡ Check.refused 20 0
  -- Solve: one cell too few, before the output is looked at and before no route; one byte too few.
  pub solve_21 : Solve.solve 8 (replicate 8 7) (some Q) ≡ solving_of (Solve.refused 21) (replicate 8 7)
  pub solve_21_row6 : Solve.solve 8 [] (some row6) ≡ solving_of (Solve.refused 21) []
  pub solve_23 : Solve.solve 9 (replicate 8 7) (some Q) ≡ solving_of (Solve.refused 23) (replicate 8 7)
  pub solve_23_none : Solve.solve 9 [] (some Q) ≡ solving_of (Solve.refused 23) []
  -- The cells that solve uses: none on 20 and 21, else one for each of 3 subqueries and 3 sites, of however many.
  pub used_20 : Solve.used none 5_000 ≡ 0
  pub used_21 : Solve.used (some Q) 8 ≡ 0
  pub used_q : Solve.used (some Q) 5_000 ≡ 9
  -- Load: the last byte is cut; nine sites; a may-join flag of 2; join 0 links 0 with itself; a byte follows.
  pub load_1 : Load.load (take 106 q_bytes) (some Q) ≡ done_with (Load.refused 1) (some Q)
  pub load_2 : Load.load (set q_bytes 0 9) (some Q) ≡ done_with (Load.refused 2) (some Q)
  pub load_3 : Load.load (set q_bytes 1 2) (some Q) ≡ done_with (Load.refused 3) (some Q)
  pub load_4 : Load.load (set q_bytes 35 0) (some Q) ≡ done_with (Load.refused 4) (some Q)
  pub load_5 : Load.load (q_bytes ++ (0 ∷ [])) (some Q) ≡ done_with (Load.refused 5) (some Q)
  -- From row counts: the last byte is cut; three rows; two divisors; a row count of 0; a divisor of 0; join 0 links 0 with itself, whatever the count of
  -- the rows; a byte follows. A file of the other form has another count than the stated one.
  pub load_rows_1 : Load.load_rows (take 106 q_rows) (some Q) ≡ done_with (Load.refused 1) (some Q)
  pub load_rows_2 : Load.load_rows (set q_rows 36 3) (some Q) ≡ done_with (Load.refused 2) (some Q)
  pub load_rows_2_divisors : Load.load_rows (set q_rows 45 2) (some Q) ≡ done_with (Load.refused 2) (some Q)
  pub load_rows_3 : Load.load_rows (set q_rows 37 0) (some Q) ≡ done_with (Load.refused 3) (some Q)
  pub load_rows_3_divisor : Load.load_rows (set q_rows 46 0) (some Q) ≡ done_with (Load.refused 3) (some Q)
  pub load_rows_4 : Load.load_rows (set (set q_rows 35 0) 36 3) (some Q) ≡ done_with (Load.refused 4) (some Q)
  pub load_rows_5 : Load.load_rows (q_rows ++ (0 ∷ [])) (some Q) ≡ done_with (Load.refused 5) (some Q)
  pub load_of_rows : Load.load q_rows (some Q) ≡ done_with (Load.refused 2) (some Q)
  pub load_rows_of_sizes : Load.load_rows q_bytes (some Q) ≡ done_with (Load.refused 2) (some Q)
  -- Link: an unlisted site, whatever the flag; one site twice; a rate of 1,001.
  pub link_6 : Link.link (link_of 3 0 2 1 1) (some Q) ≡ done_with (Link.refused 6) (some Q)
  pub link_6_twice : Link.link (link_of 1 1 0 1 1) (some Q) ≡ done_with (Link.refused 6) (some Q)
  pub link_3 : Link.link (link_of 1 0 0 1 1_001) (some Q) ≡ done_with (Link.refused 3) (some Q)
  -- Check: an empty plan; kind 4; relation 0 twice; a send of what was sent; a join of results at two sites; the join left out.
  pub check_7 : Check.check [] (some Q) ≡ Check.refused 7 0
  pub check_137 : Check.check (137 ∷ replicate 274 1) (some Q) ≡ Check.refused 7 0
  pub check_136 : Check.check (136 ∷ replicate 272 1) (some Q) ≡ Check.refused 9 1
  pub check_8 : Check.check (2 ∷ 1 ∷ 0 ∷ 4 ∷ 0 ∷ []) (some Q) ≡ Check.refused 8 1
  pub check_9 : Check.check (2 ∷ 1 ∷ 0 ∷ 1 ∷ 0 ∷ []) (some Q) ≡ Check.refused 9 1
  pub check_10 : Check.check (3 ∷ 1 ∷ 1 ∷ 2 ∷ 2 ∷ 2 ∷ 2 ∷ []) (some Q) ≡ Check.refused 10 2
  pub check_11 : Check.check (3 ∷ 1 ∷ 0 ∷ 1 ∷ 1 ∷ 3 ∷ 0 ∷ []) (some Q) ≡ Check.refused 11 2
  pub check_12 : Check.check (3 ∷ 1 ∷ 0 ∷ 1 ∷ 1 ∷ 2 ∷ 0 ∷ []) (some Q) ≡ Check.refused 12 3
