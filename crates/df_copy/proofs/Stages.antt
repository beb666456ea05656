-- At each moment of the writing of the copies: how far they have come, and so what an open says of an image that is left.
use Rattle.std.proofs.{Common.{◌≡◌, ◌⊎◌, inl, inr, ℕ, ◌<◌, ◌≤◌, ◌||◌, Bool, true, false, List, length, Some, None, refl, sym, ◌∙◌, ap, subst, arith}, lemmas.Bool.{cases_eq}, lemmas.Bool.Decides.{nat_tests}}
use Rattle.df_base.{specs.{Image.{Image, IsImage, blank, covers}, Log.{IsLeft, Log, Sync, add, loose, now}, Moments.{Passed, adds}}, proofs.Laws.{goes_on, stands, written_else}}
use Rattle.{df_layout.specs.declared.layout.Layout.{Layout}, df_model.specs.declared.errors.OpenError.TheVariants.{NotFormatted}}
use Rattle.df_format.{specs.{Super.{copy_bytes}, SuperRules.{IsUsable}, Copies.{Content, content_at, content_with, is_blank_copy}, declared.superblock.SuperFields.{SuperFields}}, proofs.Laws.{one_sector, same_copy}}
use Rattle.df_theory.specs.{Copies.{IsSplit}, Device.{units_log}, UnitLog.{settled}, Units.{CopyPlace, CopyUnit}, View.{View}}
use Rattle.df_units.{specs.{Bytes.{copy_unit, unit_at}, Meaning.{content_of}}, proofs.Laws.{blank_empty, split_split}}
use Rattle.df_superblock.{specs.Events.{copy_written, update_events}, proofs.Laws.{copy_put, seen_apart}}
use Rattle.df_opening.specs.Below.{DataFile, Refuses, format_of}
use Rattle.df_copy.{specs.{Stops.{AreSplit, HasOneCopy, IsLeftAt, IsLeftOf, Progress, progress}, Stops.Progress.{Durable, NotBegun, UnderWay}, Views.{ShowsCopy}}, proofs.{HowFar.{begun, blank_is_blank, blank_none, copy_not_blank, not_begun}, Untouched.{split_beside}}}

own_covered : (n : ℕ) (bytes : List ℕ) → length bytes ≡ 4096 → covers n bytes n ≡ true
unfolding covers
own_covered n bytes size = grind (arith, nat_tests)

module _ (f : SuperFields) (usable : IsUsable f) where
  abbrev c : Content
  c = content_with f

  -- a copy has come so far: nothing was written there, or it is there, and loose or not
  abbrev HasCopy : Log → ℕ → Progress → Type 0
  HasCopy log n NotBegun = (loose log n ≡ false) × (now log n ≡ blank n)
  HasCopy log n UnderWay = (loose log n ≡ true) × (content_at (now log) n ≡ Some c)
  HasCopy log n Durable = (loose log n ≡ false) × (content_at (now log) n ≡ Some c)

  progress_is : (log : Log) (n : ℕ) (w : Progress) → HasCopy log n w → progress log n ≡ w
  progress_is log n NotBegun has = not_begun log n has.1
  progress_is log n UnderWay has = begun log n c true has.1 has.0
  progress_is log n Durable has = begun log n c false has.1 has.0

  -- nothing is written from this copy on
  abbrev NoneFrom : ℕ → Log → Type 0
  NoneFrom k log = (n : ℕ) → k ≤ n → n < 4 → HasCopy log n NotBegun

  -- the first two have come so far
  abbrev Standing : Progress → Progress → Log → Type 0
  Standing NotBegun NotBegun log = NoneFrom 0 log
  Standing UnderWay NotBegun log = HasCopy log 0 UnderWay × NoneFrom 1 log
  Standing Durable NotBegun log = HasCopy log 0 Durable × NoneFrom 1 log
  Standing Durable UnderWay log = HasCopy log 0 Durable × HasCopy log 1 UnderWay
  Standing Durable Durable log = HasCopy log 0 Durable × HasCopy log 1 Durable
  Standing first second log = ⊥

  abbrev pub HasStage : Log → Type 0
  HasStage log = (first : Progress) × (second : Progress) × Standing first second log

  -- ---- one event

  wrote_else : (log : Log) (at n : ℕ) (w : Progress) → at < 4 → (n ≡ at → ⊥) → HasCopy log n w → HasCopy (add (copy_written at f) log) n w
  wrote_else log at n NotBegun inside away has = let out = (copy_put f usable at inside).alone n away in
      (ap (λ (b : Bool). b || loose log n) out ∙ has.0, written_else at (copy_bytes at f) (now log) n out ∙ has.1)
  wrote_else log at n UnderWay inside away has = let out = (copy_put f usable at inside).alone n away in
      (ap (λ (b : Bool). b || loose log n) out ∙ has.0, seen_apart at (copy_bytes at f) (now log) n out ∙ has.1)
  wrote_else log at n Durable inside away has = let out = (copy_put f usable at inside).alone n away in
      (ap (λ (b : Bool). b || loose log n) out ∙ has.0, seen_apart at (copy_bytes at f) (now log) n out ∙ has.1)

  wrote_own : (log : Log) (n : ℕ) → n < 4 → HasCopy (add (copy_written n f) log) n UnderWay
  wrote_own log n inside = (ap (λ (b : Bool). b || loose log n) (own_covered n (copy_bytes n f) (one_sector n f usable.fits).sector.size), (copy_put f usable n inside).shows (now log))

  none_beside : (log : Log) (at k : ℕ) → at < 4 → at < k → NoneFrom k log → NoneFrom k (add (copy_written at f) log)
  none_beside log at k inside below none =
      λ n from within. wrote_else log at n NotBegun inside (λ e. omega (arith, e, below, from)) (none n from within)

  -- ---- all of them

  pub stages : (log : Log) → NoneFrom 0 log → Passed log (adds (update_events f) log) HasStage
  stages log none = let log1 : Log = add (copy_written 0 f) log in
      let none1 : NoneFrom 1 log1 = none_beside log 0 1 (omega arith) (omega arith) (λ n from within. none n (omega arith) within) in
      let log2 : Log = add Sync log1 in let first2 : HasCopy log2 0 Durable = (refl, (wrote_own log 0 (omega arith)).1) in
      let none2 : NoneFrom 1 log2 = (λ n from within. (refl, (none1 n from within).1)) in let log3 : Log = add (copy_written 1 f) log2 in
      let first3 : HasCopy log3 0 Durable = wrote_else log2 1 0 Durable (omega arith) (λ e. omega (arith, e)) first2 in
      let log4 : Log = add Sync log3 in
      let both4 : Standing Durable Durable log4 = ((refl, first3.1), (refl, (wrote_own log2 1 (omega arith)).1)) in
      let log5 : Log = add (copy_written 2 f) log4 in
      let both5 : Standing Durable Durable log5 = (wrote_else log4 2 0 Durable (omega arith) (λ e. omega (arith, e)) both4.0, wrote_else log4 2 1 Durable (omega arith) (λ e. omega (arith, e)) both4.1) in
      let log6 : Log = add Sync log5 in let both6 : Standing Durable Durable log6 = ((refl, both5.0.1), (refl, both5.1.1)) in
      let log7 : Log = add (copy_written 3 f) log6 in
      let both7 : Standing Durable Durable log7 = (wrote_else log6 3 0 Durable (omega arith) (λ e. omega (arith, e)) both6.0, wrote_else log6 3 1 Durable (omega arith) (λ e. omega (arith, e)) both6.1) in
      let log8 : Log = add Sync log7 in let both8 : Standing Durable Durable log8 = ((refl, both7.0.1), (refl, both7.1.1)) in
      goes_on HasStage (copy_written 0 f) log log8 (NotBegun, NotBegun, none)
      (goes_on HasStage Sync log1 log8 (UnderWay, NotBegun, (wrote_own log 0 (omega arith), none1))
      (goes_on HasStage (copy_written 1 f) log2 log8 (Durable, NotBegun, (first2, none2))
      (goes_on HasStage Sync log3 log8 (Durable, UnderWay, (first3, wrote_own log2 1 (omega arith)))
      (goes_on HasStage (copy_written 2 f) log4 log8 (Durable, Durable, both4) (goes_on HasStage Sync log5 log8 (Durable, Durable, both5)
      (goes_on HasStage (copy_written 3 f) log6 log8 (Durable, Durable, both6) (goes_on HasStage Sync log7 log8 (Durable, Durable, both7)
      (stands HasStage log8 (Durable, Durable, both8)))))))))

  -- ---- what is left

  module _ (layout : Layout) (file : DataFile) (source : Image) (v : View) (log : Log) (image : Image) (left : IsLeft log image) where
    there : (n : ℕ) → HasCopy log n Durable → content_at image n ≡ Some c
    there n has = same_copy image (now log) n (left.kept n has.0) ∙ has.1

    zeros : (n : ℕ) → HasCopy log n NotBegun → image n ≡ blank n
    zeros n has = left.kept n has.0 ∙ has.1

    -- two copies don't agree, and the first sector isn't blank
    half_made : is_blank_copy (image 0) ≡ false → IsSplit (unit_at layout file.cluster image) → HasOneCopy image
    half_made shows split = (
      _,
      record {
        formatted = λ blanks. (let both : true ≡ false = sym (blanks 0 (omega arith)) ∙ shows in cc);
        split = (split_split layout file.cluster image left.whole).1 split;
        shown = refl;
      },
    )

    alone : NoneFrom 1 log → IsSplit (unit_at layout file.cluster image)
    alone none = split_beside (unit_at layout file.cluster image) (λ n above inside. ap copy_unit
        (same_copy image blank n (zeros n (none n (omega (arith, above)) inside))) ∙ blank_empty layout file.cluster (CopyPlace n))

    blank_beside : is_blank_copy (image 0) ≡ true → NoneFrom 1 log → Refuses image NotFormatted
    blank_beside first none n inside = elim (cases_eq n 0) [
      | inl here ↦ ap (λ (m : ℕ). is_blank_copy (image m)) here ∙ first
      | inr away ↦ ap is_blank_copy (zeros n (none n (omega (arith, away)) inside)) ∙ blank_is_blank n
    ]

    first_torn : (b : Bool) → is_blank_copy (image 0) ≡ b → NoneFrom 1 log → Refuses image NotFormatted ⊎ HasOneCopy image
    first_torn true is none = inl (blank_beside is none)
    first_torn false is none = inr (half_made is (alone none))

    both_agree : HasCopy log 0 Durable → HasCopy log 1 Durable → IsSplit (unit_at layout file.cluster image) → ⊥
    both_agree zeroth one split =
        split (content_of c) (record { first = 0; second = 1; apart = omega arith; inside = omega arith; at_first = ap copy_unit (there 0 zeroth); at_second = ap copy_unit (there 1 one) })

    module _ (other : IsSplit (unit_at layout file.cluster image) ⊎ ShowsCopy layout file source v image) where
      left_at : (first second : Progress) → Standing first second log → IsLeftAt layout file source v first second image
      left_at NotBegun NotBegun all = λ n inside. ap is_blank_copy (zeros n (all n (omega arith) inside)) ∙ blank_is_blank n
      left_at UnderWay NotBegun has = first_torn (is_blank_copy (image 0)) refl has.1
      left_at Durable NotBegun has = half_made (copy_not_blank image 0 c (there 0 has.0)) (alone has.1)
      left_at Durable UnderWay has = elim other [
        | inl split ↦ inl (half_made (copy_not_blank image 0 c (there 0 has.0)) split)
        | inr shows ↦ inr shows
      ]
      left_at Durable Durable has = elim other [
        | inl split ↦ absurd (both_agree has.0 has.1 split)
        | inr shows ↦ shows
      ]
      left_at NotBegun UnderWay has = absurd has
      left_at NotBegun Durable has = absurd has
      left_at UnderWay UnderWay has = absurd has
      left_at UnderWay Durable has = absurd has

      two : (first second : Progress) → Standing first second log → HasCopy log 0 first × HasCopy log 1 second
      two NotBegun NotBegun all = (all 0 (omega arith) (omega arith), all 1 (omega arith) (omega arith))
      two UnderWay NotBegun has = (has.0, has.1 1 (omega arith) (omega arith))
      two Durable NotBegun has = (has.0, has.1 1 (omega arith) (omega arith))
      two Durable UnderWay has = has
      two Durable Durable has = has
      two NotBegun UnderWay has = absurd has
      two NotBegun Durable has = absurd has
      two UnderWay UnderWay has = absurd has
      two UnderWay Durable has = absurd has

      pub left_by : HasStage log → IsLeftAt layout file source v (progress log 0) (progress log 1) image
      left_by stage = let both = two stage.0 stage.1 stage.2 in
          subst (λ (w : Progress). IsLeftAt layout file source v w (progress log 1) image) (sym (progress_is log 0 stage.0 both.0))
          (rw (sym (progress_is log 1 stage.1 both.1)) at (left_at stage.0 stage.1 stage.2))

-- ---- what is left is refused, or shows the copy

module _ (layout : Layout) (cluster : ℕ) (image : Image) where
  zeros_split : Refuses image NotFormatted → IsSplit (unit_at layout cluster image)
  zeros_split zeros d agree = let both : None ≡ Some (CopyUnit d) =
      sym (ap copy_unit (blank_none image agree.second (zeros agree.second agree.inside))) ∙ agree.at_second in cc

  one_split : IsImage image → HasOneCopy image → IsSplit (unit_at layout cluster image)
  one_split whole one = (split_split layout cluster image whole).0 one.1.split

module _ (layout : Layout) (file : DataFile) (source : Image) (v : View) (image : Image) (whole : IsImage image) where
  abbrev Either : Type 0
  Either = IsSplit (unit_at layout file.cluster image) ⊎ ShowsCopy layout file source v image

  either_at : (first second : Progress) → IsLeftAt layout file source v first second image → Either
  either_at NotBegun NotBegun is = inl (zeros_split layout file.cluster image is)
  either_at UnderWay NotBegun is = elim is [
    | inl zeros ↦ inl (zeros_split layout file.cluster image zeros)
    | inr one ↦ inl (one_split layout file.cluster image whole one)
  ]
  either_at Durable NotBegun is = inl (one_split layout file.cluster image whole is)
  either_at Durable UnderWay is = elim is [
    | inl one ↦ inl (one_split layout file.cluster image whole one)
    | inr shows ↦ inr shows
  ]
  either_at Durable Durable is = inr is
  either_at NotBegun UnderWay is = absurd is
  either_at NotBegun Durable is = absurd is
  either_at UnderWay UnderWay is = absurd is
  either_at UnderWay Durable is = absurd is

  -- no two copies of the superblock agree in it, and none did in what was durable before; or it shows the copy
  pub left_or_shows : (log : Log) → IsLeftOf layout file source v log image → (IsSplit (unit_at layout file.cluster image)
      × AreSplit (settled (units_log (format_of layout file.cluster) log))) ⊎ ShowsCopy layout file source v image
  left_or_shows log left = elim (either_at (progress log 0) (progress log 1) left.is) [
    | inl split ↦ inl (split, left.early split)
    | inr shows ↦ inr shows
  ]
