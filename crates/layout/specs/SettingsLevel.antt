-- Settings within their bounds, and one of their levels.
use Rattle.std.specs.Prelude.{ℕ, ◌<◌}
use Rattle.format.specs.SizeLaws.{Sizes}
use Rattle.layout.specs.declared.settings.Settings.{Settings}

-- Settings whose sizes are within their bounds, and one of their levels.
pub record Sized (s : Settings) (level : ℕ) : Type 0 where
  pub bounds : Sizes s.leaf s.arity s.levels
  pub level_in : level < s.levels
