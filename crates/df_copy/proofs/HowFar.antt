-- How far a copy of the superblock has come, by what its sector shows and whether it is loose.
use Rattle.std.proofs.{Common.{◌≡◌, ℕ, Bool, true, false, if◌then◌else◌, Some, None, refl, sym, ◌∙◌, ap, replicate}, lemmas.Slice.Eq.{bytes_eq-Decides}}
use Rattle.{df_base.specs.{Image.{Image, blank}, Log.{Log, loose, now}}, df_layout.specs.declared.layout.Layout.{Layout}}
use Rattle.df_format.{specs.Copies.{Content, content_at, is_blank_copy}, proofs.Laws.{blank_copy_none, same_copy}}
use Rattle.{df_theory.{specs.{Device.{NoChanceOf, units_log}, UnitLog.{UnitLog}}, proofs.Laws.{pool_pools}}, df_units.specs.Bytes.{unit_at}}
use Rattle.df_opening.specs.Below.{AreDistinctUnits, format_of}
use Rattle.df_copy.specs.{Stops.{Progress, progress}, Stops.Progress.{Durable, NotBegun, UnderWay}}

-- ---- sectors of zeros

pub blank_is_blank : (n : ℕ) → is_blank_copy (blank n) ≡ true
unfolding is_blank_copy blank
blank_is_blank n = (bytes_eq-Decides (replicate 4096 0) (replicate 4096 0)).1 refl

pub blank_none : (image : Image) (n : ℕ) → is_blank_copy (image n) ≡ true → content_at image n ≡ None
unfolding is_blank_copy blank
blank_none image n zeros = same_copy image blank n ((bytes_eq-Decides (image n) (replicate 4096 0)).0 zeros) ∙ blank_copy_none n

-- a sector that shows a copy isn't one
pub copy_not_blank : (image : Image) (n : ℕ) (c : Content) → content_at image n ≡ Some c → is_blank_copy (image n) ≡ false
copy_not_blank image n c shows = go (is_blank_copy (image n)) refl
  where
    go : (b : Bool) → is_blank_copy (image n) ≡ b → is_blank_copy (image n) ≡ false
    go false is = is
    go true is = absurd (let both : None ≡ Some c = sym (blank_none image n is) ∙ shows in cc)

-- ---- how far it has come

pub not_begun : (log : Log) (n : ℕ) → now log n ≡ blank n → progress log n ≡ NotBegun
not_begun log n is =
    ap (λ (b : Bool). if b then NotBegun else (if loose log n then UnderWay else Durable)) (ap is_blank_copy is ∙ blank_is_blank n)

pub begun : (log : Log) (n : ℕ) (c : Content) (b : Bool)
    → content_at (now log) n ≡ Some c → loose log n ≡ b → progress log n ≡ (if b then UnderWay else Durable)
begun log n c b shows is =
    ap (λ (d : Bool). if d then NotBegun else (if loose log n then UnderWay else Durable)) (copy_not_blank (now log) n c shows)
    ∙ ap (λ (d : Bool). if d then UnderWay else Durable) is

-- ---- units

-- no two units that came about by no chance have one checksum
pub units_distinct : (layout : Layout) (cluster : ℕ) (log : Log) (image : Image)
    → NoChanceOf (format_of layout cluster) log image → AreDistinctUnits (unit_at layout cluster image)
units_distinct layout cluster log image chance place other x y one two = let units : UnitLog = units_log (format_of layout cluster) log in
    chance.distinct place other x y (pool_pools units.start units.events place x (chance.pooled place x one))
    (pool_pools units.start units.events other y (chance.pooled other y two))
