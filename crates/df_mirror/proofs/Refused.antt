-- A trailer is refused for one thing, and once it is, no known unit is next, and it doesn't pass the tests of an open.
use Rattle.std.{proofs.{Common.{◌≡◌, ℕ, ◌+◌, ◌-◌, ◌<◌, ◌≤◌, ◌^◌, true, false, List, [], ◌∷◌, length, min, Option, Some, None, refl, sym, ◌∙◌, ap, arith, inl, inr}, lemmas.Option.{same_Some}}, specs.Prelude.{◌⊎◌, Ok}}
use Rattle.{df_base.specs.Image.{Image}, df_layout.specs.declared.fields.Field.{Field, TheVariants.{TrailerChain}}}
use Rattle.df_format.specs.{declared.kind.Kind.{Kind}, declared.kind.Kind.TheVariants.{Block as AsBlock, Prepare as AsPrepare, Reply as AsReply, Reserved, Trailer as AsTrailer}}
use Rattle.df_model.{specs.{Supply.{Shown}, Work.{is_known}, declared.errors.OpenError.{OpenError}, declared.errors.OpenError.TheVariants.{BadField}}, proofs.Laws.{count_le}}
use Rattle.df_theory.specs.{Opens.{Arrives, IsLink, IsShown, ReadsTo}, Sessions.{Has}, Shape.{Shape}, Trailer.{InChain, Links, Says, piece_size, text_of}, Units.{Block, BlockPlace, BlockUnit, Content, Parts, Place, Units}}
use Rattle.{df_trailer.specs.{declared.fault.Fault.{Fault}, Text.{fault, parse_of, parts_of, unless}}, df_grid.specs.Reads.{shown_of}}
use Rattle.df_checkpoint.{specs.{Chain.{IsBroken}, Laws.{AllChainShown}, Reads.{IsWholeChain}, Tests.{FailsTest}}, proofs.Laws.{broken_shown, its_text, one_test, some_chain, whole_shown}}
use Rattle.df_opening.specs.Below.{DataFile, shape}
use Rattle.df_mirror.{specs.{Known.{IsNext, IsSparePlace, PassesTrailer, ShowsTrailer}, Mends.{units_shown}, Refusals.{ComesAgain, RefusesFirstTrailer}}, proofs.{Chains.{all_of_it, asked_shown, one_wanted, read_known, read_shown, shown_block}, Ones.{one_chain}}}

-- ---- a trailer that passes

-- the block that a walk down a whole chain comes to is the link that is wanted there
link_in : (sh : Shape) (image : Units) (c : Content) (index : ℕ) (xs ys : List (ℕ × Block)) (address sum a k : ℕ) (block : Block)
    → Links (sh.layout.block_size - 256) c xs address sum → ((e : ℕ) (b : Block) → InChain e b xs → e ≤ sh.layout.blocks)
    → ((e : ℕ) (b : Block) → InChain e b xs → image (BlockPlace e) ≡ Some (BlockUnit b)) → Arrives image ys address sum a k
    → length xs ≡ length ys + (index + 1) → image (BlockPlace a) ≡ Some (BlockUnit block) → IsLink sh c index block
link_in sh image c index [] ys address sum a k block links inside shown arrives size at = absurd (omega (arith, size))
link_in sh image c index (x ∷ xs) [] address sum a k block links inside shown arrives size at =
    let both : Some (BlockUnit block) ≡ Some (BlockUnit x.1) =
    sym at ∙ ap (λ (n : ℕ). image (BlockPlace n)) (arrives.0 ∙ sym links.1) ∙ shown x.0 x.1 (inl (refl, refl)) in
    let same : x.1 ≡ block = cc in let here : length xs ≡ index = omega (arith, size) in
    rw (← same) (record { sequence = links.3; place = links.4 ∙ here; size = rw (← here) links.5; before = λ above. before xs inside links.7 (omega (arith, above, here)) })
  where
    before : (rest : List (ℕ × Block)) → ((e : ℕ) (b : Block) → InChain e b (x ∷ rest) → e ≤ sh.layout.blocks) → Links (sh.layout.block_size - 256) c rest x.1.before x.1.before_checksum → 0 < length rest → (0 < x.1.before) × (x.1.before ≤ sh.layout.blocks)
    before [] within named some = absurd (omega (arith, some))
    before (y ∷ rest) within named some = (named.0, omega (arith, within y.0 y.1 (inr (inl (refl, refl))), named.1))
link_in sh image c index (x ∷ xs) (y ∷ ys) address sum a k block links inside shown arrives size at =
    let both : Some (BlockUnit y.1) ≡ Some (BlockUnit x.1) =
    sym arrives.3 ∙ ap (λ (n : ℕ). image (BlockPlace n)) (sym links.1) ∙ shown x.0 x.1 (inl (refl, refl)) in let same : y.1 ≡ x.1 = cc in
    link_in sh image c index xs ys x.1.before x.1.before_checksum a k block links.7 (λ e b there.
    inside e b (inr there)) (λ e b there. shown e b (inr there)) (rw same at arrives.5) (omega (arith, size)) at

-- a text of which a part fails says nothing
unsaid : (sh : Shape) (op : ℕ) (text : List ℕ) (parts : Parts) (f : Fault)
    → sh.parse ≡ parse_of sh.layout → op ≤ 2 ^ 62 → fault sh.layout op text ≡ Some f → sh.parse op text ≡ Some parts → ⊥
unsaid sh op text parts f parse most fails says = let least : min op (2 ^ 62) ≡ op = omega arith in
    let none : sh.parse op text ≡ None = ap (λ (p : ℕ → List ℕ → Option Parts). p op text) parse ∙ ap (λ (n : ℕ). unless
    (fault sh.layout n text) (parts_of sh.layout text)) least ∙ ap (λ (o : Option Fault). unless o (parts_of sh.layout text)) fails in cc

module _ (sh : Shape) (shown : Shown) (c : Content)
    (parse : sh.parse ≡ parse_of sh.layout) (most : c.op ≤ 2 ^ 62) (named : 0 < c.trailer) (passes : PassesTrailer sh shown.units c) where
  abbrev says : ShowsTrailer sh shown.units c
  says = passes.says

  -- the chain is the one that is shown, and its text is parsed
  said : (chain : List (ℕ × Block)) → IsWholeChain sh shown c chain → (chain ≡ says.chain) × (sh.parse c.op (text_of chain) ≡ Some says.parts)
  said chain whole = let room : ℕ = sh.layout.block_size - 256 in let same =
      one_chain shown.units room c chain says.chain c.trailer c.trailer_checksum whole.links says.trailer.links whole.shows says.shown in
      (same, its_text sh c.op chain says.parts (some_chain room c chain named whole.links) (rw same says.trailer.says))

  unbroken : (a : ℕ) → IsBroken sh shown c a → ⊥
  unbroken a bad = let room : ℕ = sh.layout.block_size - 256 in
      let one = count_le room c.trailer_size bad.reads.count (length says.chain) bad.reads.counts says.trailer.count in
      let two = count_le room c.trailer_size (length says.chain) bad.reads.count says.trailer.count bad.reads.counts in
      let there = broken_shown sh shown c a bad a bad.sum bad.reads in
      let both : Ok there.0 ≡ Ok bad.block = sym (asked_shown shown a bad.sum there.0 there.1 there.2 there.3) ∙ bad.is in
      let same : there.0 ≡ bad.block = cc in bad.broken (rw same at
      (link_in sh shown.units c bad.index says.chain bad.reads.read c.trailer c.trailer_checksum
      a bad.sum there.0 says.trailer.links says.trailer.inside says.shown bad.reads.arrives (omega (arith, one, two, bad.at)) there.1))

  pub fails_no_test : (field : Field) (value : ℕ) → FailsTest sh shown c field value → ⊥
  fails_no_test field value (inl broken) = unbroken value broken.1
  fails_no_test field value (inr (inl bad)) = unsaid
      sh c.op (text_of bad.chain) says.parts (record { field = field; value = value }) parse most bad.fails (said bad.chain bad.whole).1
  fails_no_test field value (inr (inr (inl (of, bad)))) = let there = said bad.chain bad.whole in
      let parts : says.parts ≡ bad.parts = same_Some _ _ (sym there.1 ∙ bad.says) in let none : bad.parts.references value ≡ None =
      ap (λ (p : Parts). p.references value) (sym parts) ∙ says.trailer.spare value bad.block (rw there.0 at bad.chained) in
      let no : is_known (bad.parts.references value) ≡ false = ap is_known none in
      let yes : is_known (bad.parts.references value) ≡ true = bad.known in cc
  fails_no_test field value (inr (inr (inr (of, bad)))) = let there = said bad.chain bad.whole in
      let parts : says.parts ≡ bad.parts = same_Some _ _ (sym there.1 ∙ bad.says) in
      bad.lacks (rw parts at (passes.pending value bad.above bad.reached))

-- ---- a trailer that is refused

-- where a test fails each block that is wanted is shown
tests_shown : (sh : Shape) (shown : Shown) (c : Content) (field : Field) (value : ℕ)
    → FailsTest sh shown c field value → AllChainShown sh shown c
tests_shown sh shown c field value (inl broken) = broken_shown sh shown c value broken.1
tests_shown sh shown c field value (inr (inl bad)) = whole_shown sh shown c bad.chain bad.whole
tests_shown sh shown c field value (inr (inr (inl (of, bad)))) = whole_shown sh shown c bad.chain bad.whole
tests_shown sh shown c field value (inr (inr (inr (of, bad)))) = whole_shown sh shown c bad.chain bad.whole

-- an address that comes again with another checksum isn't shown with that
again_lacks : (sh : Shape) (image : Units) (c : Content) (a : ℕ) (again : ComesAgain sh image c a) → IsShown image a again.sum → ⊥
again_lacks sh image c a again shown =
    let there = read_shown image again.reads.read c.trailer c.trailer_checksum a again.sum a again.block again.reads.arrives again.chained in
    let both : Some (BlockUnit again.block) ≡ Some (BlockUnit shown.0) = sym there.0 ∙ shown.1 in let same : again.block ≡ shown.0 = cc in
    again.other (ap (λ (b : Block). b.checksum) same ∙ shown.2)

module _ (file : DataFile) (image : Image) (c : Content) (most : c.op ≤ 2 ^ 62) where
  abbrev sh : Shape
  sh = shape file

  abbrev units : Units
  units = units_shown file image

  abbrev Told : Shown
  Told = shown_of file.layout file.cluster image

  -- it doesn't pass
  pub refused_or_passes : (e : OpenError) → RefusesFirstTrailer file image c e → PassesTrailer sh units c → ⊥
  refused_or_passes (BadField field value) (named, inl fails) passes = fails_no_test sh Told c refl most named passes field value fails
  refused_or_passes (BadField field value) (named, inr (of, again)) passes =
      again_lacks sh units c value again (all_of_it sh units c passes.says value again.sum again.reads)
  refused_or_passes e is passes = absurd is

  -- a block that comes again stands where a known one is shown
  not_spare : (a : ℕ) (again : ComesAgain sh units c a) → IsSparePlace sh units c (BlockPlace a) → ⊥
  not_spare a again spare = let there = read_known units sh c again.reads.count
      again.reads.read c.trailer c.trailer_checksum a again.sum a again.block again.reads.arrives again.reads.links again.chained in
      let known : ReadsTo sh units c a again.block.checksum = record { count = again.reads.count; read = there.0; counts = again.reads.counts; arrives = there.1; links = there.2; more = omega (arith, there.3, again.reads.more) } in
      let shows = read_shown units again.reads.read c.trailer c.trailer_checksum a again.sum a again.block again.reads.arrives again.chained in
      spare AsTrailer
      (BlockPlace a) again.block.checksum known (shown_block units a again.block.checksum (again.block, shows.0, refl, shows.1)) refl

  -- and no known unit is next
  trailer_or_refused : (e : OpenError) (place : Place) (sum : ℕ)
      → RefusesFirstTrailer file image c e → IsNext sh units c AsTrailer place sum → IsSparePlace sh units c place → ⊥
  trailer_or_refused (BadField field value) (BlockPlace a) sum (named, inl fails) next spare =
      next.lacks (shown_block units a sum (tests_shown sh Told c field value fails a sum next.known))
  trailer_or_refused (BadField field value) (BlockPlace a) sum (named, inr (of, again)) next spare =
      let same = one_wanted sh units c value again.sum a sum again.reads next.known (again_lacks sh units c value again) (λ shown.
      next.lacks (shown_block units a sum shown)) in not_spare value again (rw (sym same.0) at spare)
  trailer_or_refused (BadField field value) place sum is next spare = absurd next.known
  trailer_or_refused e place sum is next spare = absurd is

  pub refused_or_next : (e : OpenError) (kind : Kind) (place : Place) (sum : ℕ)
      → RefusesFirstTrailer file image c e → IsNext sh units c kind place sum → IsSparePlace sh units c place → ⊥
  refused_or_next e AsTrailer place sum is next spare = trailer_or_refused e place sum is next spare
  refused_or_next e AsBlock place sum is next spare = refused_or_passes e is next.trailer
  refused_or_next e AsPrepare place sum is next spare = refused_or_passes e is next.trailer
  refused_or_next e AsReply place sum is next spare = refused_or_passes e is next.trailer
  refused_or_next e Reserved place sum is next spare = absurd next.known

  -- one thing is told
  abbrev Fails : Field → ℕ → Type 0
  Fails field value = FailsTest sh Told c field value ⊎ ((field ≡ TrailerChain) × ComesAgain sh units c value)

  pub one_refused : (e d : OpenError) → RefusesFirstTrailer file image c e → RefusesFirstTrailer file image c d → e ≡ d
  one_refused (BadField field value) (BadField other number) (named, one) (also, two) = by one two
    where
      both : (field ≡ other) × (value ≡ number) → BadField field value ≡ BadField other number
      both same = λ i. BadField (same.0 i) (same.1 i)

      by : Fails field value → Fails other number → BadField field value ≡ BadField other number
      by (inl fails) (inl breaks) = both (one_test sh Told c field other value number refl most fails breaks)
      by (inl fails) (inr (of, again)) =
          absurd (again_lacks sh units c number again (tests_shown sh Told c field value fails number again.sum again.reads))
      by (inr (of, again)) (inl fails) =
          absurd (again_lacks sh units c value again (tests_shown sh Told c other number fails value again.sum again.reads))
      by (inr (of, again)) (inr (its, twice)) =
          both (of ∙ sym its, (one_wanted sh units c value again.sum number twice.sum again.reads twice.reads (again_lacks sh units c value again) (again_lacks sh units c number twice)).0)
  one_refused (BadField field value) d one two = absurd two
  one_refused e d one two = absurd one
