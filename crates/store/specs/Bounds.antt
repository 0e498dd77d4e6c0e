-- What always holds among a store's floor, list and capacity.
use Rattle.std.specs.Prelude.{◌≡◌, ℕ, ◌≤◌, List, length}
use Rattle.claims.specs.declared.records.Claim.{Claim}

pub record Bounds (floor : ℕ) (list : List Claim) (capacity : ℕ) : Type 0 where
  pub low : floor ≤ length list
  pub high : length list ≤ capacity
  pub few : capacity ≤ 512

-- floor and capacity are as they were
pub record Kept (floor capacity floor' capacity' : ℕ) : Type 0 where
  pub floor_same : floor' ≡ floor
  pub capacity_same : capacity' ≡ capacity
