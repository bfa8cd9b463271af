-- The rule of a triangle on the grid, over whole numbers, in terms of weighted means of its corners. Assumes nothing.
use Rattle.std.specs.Prelude.{◌≡◌, ℕ, ◌+◌, ◌<◌, ℤ, pos, negsuc, ◌+ℤ◌, ◌-ℤ◌, ◌*ℤ◌, ◌<ℤ◌}
use Rattle.plane.specs.Winding.{Gives}

-- twice the area of the triangle with corners (ax, ay), (bx, by), (cx, cy): positive where they turn as (0, 0), (1, 0), (0, 1) do
abbrev pub twice_area : ℤ → ℤ → ℤ → ℤ → ℤ → ℤ → ℤ
twice_area ax ay bx by cx cy = (bx -ℤ ax) *ℤ (cy -ℤ ay) -ℤ (by -ℤ ay) *ℤ (cx -ℤ ax)

-- u is the mean of a, b and c with the weights i, j and k
abbrev pub Mean : ℕ → ℕ → ℕ → ℤ → ℤ → ℤ → ℤ → Type 0
Mean i j k a b c u = pos i *ℤ a +ℤ pos j *ℤ b +ℤ pos k *ℤ c ≡ pos (i + j + k) *ℤ u

-- The point (u, v) lies in the triangle or on its edges: it is a mean of the corners, with weights that are not all 0.
abbrev pub InOrOnEdge : ℤ → ℤ → ℤ → ℤ → ℤ → ℤ → ℤ → ℤ → Type 0
InOrOnEdge ax ay bx by cx cy u v = (i : ℕ) × (j : ℕ) × (k : ℕ) × (0 < i + j + k) × Mean i j k ax bx cx u × Mean i j k ay by cy v

-- It lies inside: no weight is 0.
abbrev pub Inside : ℤ → ℤ → ℤ → ℤ → ℤ → ℤ → ℤ → ℤ → Type 0
Inside ax ay bx by cx cy u v = (i : ℕ) × (j : ℕ) × (k : ℕ) × (0 < i) × (0 < j) × (0 < k) × Mean i j k ax bx cx u × Mean i j k ay by cy v

-- A triangle of positive area holds its inside and its edges, one of negative area its inside alone, and one of no area nothing.
pub record RuleOfTriangle (ax ay bx by cx cy u v w : ℤ) : Type 0 where
  pub positive : pos 0 <ℤ twice_area ax ay bx by cx cy → Gives (InOrOnEdge ax ay bx by cx cy u v) (pos 1) w
  pub negative : twice_area ax ay bx by cx cy <ℤ pos 0 → Gives (Inside ax ay bx by cx cy u v) (negsuc 0) w
  pub flat : twice_area ax ay bx by cx cy ≡ pos 0 → w ≡ pos 0
