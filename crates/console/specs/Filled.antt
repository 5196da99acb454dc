-- What the contracts of buffers cite.
use Rattle.std.specs.Prelude.{replicate, List, ℕ}

-- n bytes, each of them v. It stays shut, so that no goal has them all written out.
unfoldable pub filled : ℕ → ℕ → List ℕ
filled n v = replicate n v
