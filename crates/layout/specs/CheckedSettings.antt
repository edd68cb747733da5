-- What the constructor of checked settings returns.
use Rattle.std.specs.Prelude.{List, [], cond, ℕ, length, Result, Ok, Err}
use Rattle.refusals.specs.declared.Refusal.{Refusal}
use Rattle.refusals.specs.declared.Refusal.TheVariants.{SettingsOutOfBounds, CountedBytesWrong}
use Rattle.format.specs.Layout as format
use Rattle.layout.specs.declared.settings.Settings.{Settings}

-- m, r and H, with no byte counted
abbrev pub sizes : ℕ → ℕ → ℕ → format.Settings
sizes m r H = format.given m r H []

-- The settings, or the refusal of the first question that fails.
unfoldable pub checked : ℕ → ℕ → ℕ → List ℕ → Result Settings Refusal
checked m r H cs =
    cond (format.sizes_ok (sizes m r H))
    (cond (format.counted_ok cs) (Ok (record { leaf = m; arity = r; levels = H; counted = length cs })) (Err CountedBytesWrong))
    (Err SettingsOutOfBounds)
