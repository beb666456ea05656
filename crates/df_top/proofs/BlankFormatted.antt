-- Over a blank disk each other end of `format` needs a call that failed, a cluster 0, or a sector of the superblock that was written.
use Rattle.{std.proofs.Common.{◌≡◌, ◌<◌, inl, inr, ℕ, true, false, Some, refl, sym, ◌∙◌, arith}, df_disk.specs.Told.{Told}}
use Rattle.{df_model.specs.declared.errors.FormatError.{FormatError}, df_session.specs.{Below.{IsUnformatted}, Formatting.{IsFirstWritten}}}
use Rattle.df_model.specs.declared.errors.FormatError.TheVariants as formats
use Rattle.df_top.specs.{Completeness.{BlankIsFormatted}, Formats.{RefusesFormat}, declared.status.Status.TheVariants.{Done, Found, Words, Script, Refused, DiskFault, ReadFault, WriteFault, Memory}}

none_refused : (cluster : ℕ) (t : Told) (error : FormatError) → 0 < cluster → IsUnformatted t.shown → RefusesFormat cluster (Some t) error → ⊥
none_refused cluster t formats.ClusterZero named blank zero = omega (arith, named, zero)
none_refused cluster t (formats.NotBlank copy) named blank refuses = let first : IsFirstWritten t.shown copy = refuses.1 t refl in
    absurd (let both : true ≡ false = sym (blank copy first.inside) ∙ first.written in cc)
none_refused cluster t formats.DiskFault named blank none = absurd none

pub blank_is_formatted : BlankIsFormatted
blank_is_formatted layout cluster t later old new before now Done named blank causes none made = inl refl
blank_is_formatted layout cluster t later old new before now Memory named blank causes none nothing = inr refl
blank_is_formatted layout cluster t later old new before now Refused named blank causes none refuses =
    absurd (none_refused cluster t refuses.0 named blank refuses.1.why)
blank_is_formatted layout cluster t later old new before now DiskFault named blank causes none part = absurd (none.disk (causes.disk.rose refl))
blank_is_formatted layout cluster t later old new before now WriteFault named blank causes none part = absurd (none.sink (causes.sink.rose refl))
blank_is_formatted layout cluster t later old new before now case named blank causes none never = absurd never
