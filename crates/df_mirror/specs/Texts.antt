-- The lines that are printed.
use Rattle.std.specs.Prelude.{ℕ, List, codes}
use Rattle.df_layout.specs.{declared.damage.Class.{Class}, declared.places.Place.{Place}}
use Rattle.df_script_model.specs.Texts.{class_text, line_of, numbered, place_text, spaced}

abbrev pub mirror_usage : List ℕ
mirror_usage = codes "usage: filemirror FIRST SECOND\n"

-- the unit at a place was written
abbrev pub mended_text : Place → List ℕ
mended_text place = line_of (spaced (codes "mended") (place_text place))

-- this many were
abbrev pub count_text : ℕ → List ℕ
count_text count = line_of (numbered (codes "mended") count)

-- neither file shows the unit, and this is what the first one shows
abbrev pub neither_text : Place → Class → List ℕ
neither_text place class = line_of (spaced (codes "refused Neither") (spaced (place_text place) (class_text class)))
