-- A query with one line replaced, by amounts up to their limits, is valid: nothing else changes.
use Prim.Native.Nat.{ℕ, ◌+◌, ◌*◌, ◌≤◌}
use Rattle.query.specs.declared.Lines.{Lines}
use Rattle.query.specs.declared.Query.{Query}
use Rattle.query.specs.declared.Terms.{Terms}
use Rattle.query.specs.Terms.{with_line, relined}
use Rattle.query.specs.Query.{UpTo, Valid, home}
use Rattle.query.proofs.Limits.{set_up_to}

-- The fixed amount and the rate of a site or a line are up to their limits.
pub record Fair (t : Terms) : Type 0 where
  pub fixed_most : t.fixed ≤ 1_000_000
  pub rate_most : t.rate ≤ 1_000

-- So are those of every line.
pub record LinesIn (a : Lines) : Type 0 where
  pub fixed_most : UpTo 1_000_000 a.fixed
  pub rate_most : UpTo 1_000 a.rate

-- A line replaced by a fair one.
pub with_line_lem : (a b : ℕ) (ls : Lines) (t : Terms) → Fair t → LinesIn ls → LinesIn (with_line a b ls t)
with_line_lem a b ls t f h = record {
  fixed_most = set_up_to _ ls.fixed (8 * a + b) _ f.fixed_most h.fixed_most;
  rate_most = set_up_to _ ls.rate (8 * a + b) _ f.rate_most h.rate_most;
}

pub linked_valid : (q : Query) → Valid q → (a b : ℕ) (t : Terms) → t.fixed ≤ 1_000_000 → t.rate ≤ 1_000 → Valid (relined q a b t)
unfolding home
linked_valid q v a b t f r =
    let fair : Fair t = record { fixed_most = f; rate_most = r } in
    let ls : LinesIn (with_line a b q.lines t) = with_line_lem a b q.lines t fair (record { fixed_most = v.line_fixed_most; rate_most = v.line_rate_most }) in
    record {
      sites_some = v.sites_some;
      sites_most = v.sites_most;
      relations_most = v.relations_most;
      tree = v.tree;
      homes = v.homes;
      target_in = v.target_in;
      sizes_most = v.sizes_most;
      join_fixed_most = v.join_fixed_most;
      join_rate_most = v.join_rate_most;
      line_fixed_most = ls.fixed_most;
      line_rate_most = ls.rate_most;
    }
