-- Document 01, and request 2026-01 of document 02: what a composition is set to, whatever cells it holds.
use Rattle.std.specs.Prelude.{Bool, false}
use Rattle.p2_input_method.specs.declared.InputMethod.{InputMethod}
use Rattle.p3_cells.specs.declared.Mode.{Mode}
use Rattle.p3_cells.specs.declared.Mode.TheVariants.{Vietnamese}
use Rattle.p3_cells.specs.declared.Settings.{Settings}

-- a new composition: in Vietnamese mode; 2026-01, capitals: "Add a setting, off at first."
abbrev pub at_first : InputMethod → Settings
at_first m = record { method = m; mode = Vietnamese; capitals = false }

-- "setting the method .. keeps the mode"
abbrev pub with_method : Settings → InputMethod → Settings
with_method z m = record { method = m; mode = z.mode; capitals = z.capitals }

-- "Turning to English .. turning to Vietnamese"
abbrev pub with_mode : Settings → Mode → Settings
with_mode z o = record { method = z.method; mode = o; capitals = z.capitals }

-- 2026-01: capitals on or off, and all else as it is
abbrev pub with_capitals : Settings → Bool → Settings
with_capitals z on = record { method = z.method; mode = z.mode; capitals = on }
