-- What the status of a copy blames, and what becomes of a source that isn't opened.
use Rattle.std.{proofs.Common.{◌≡◌, inl, inr, ℕ, ◌<◌, ◌≤◌, Bool, true, false, List, [], ◌∷◌, length, map, Option, Some, None, Err, refl, sym, ◌∙◌, ap, arith}, specs.Prelude.{IfNone, get_or}}
use Rattle.{df_base.specs.{Causes.{Blamed}, Image.{IsImage}, Log.{Sync}}, df_disk.specs.Told.{Told, after}}
use Rattle.{df_layout.specs.declared.layout.Layout.{Layout}, df_model.specs.declared.errors.OpenError.{OpenError}}
use Rattle.df_model.specs.declared.errors.OpenError.TheVariants as opens
use Rattle.df_opening.specs.{Opened.{StopsOpening}, Surveying.{TellsSurvey}}
use Rattle.df_program.{specs.{Telling.{Blames, PrintsError, Writes}, Two.{Faults, HasCausesOfTwo, Outside}, Names.{NamesLayout, OneLayout}}, proofs.Laws.{first_causes, open_fault, printed_causes, refusal_ends, second_causes, text_ends}}
use Rattle.df_copy.specs.{declared.{ending.Ending.{Ending, TheVariants.{BlockTooLong, Damaged, NotAtRest, NotBlank, ReplyTooLong, Source, Target, TooFewBlocks, TooFewClients}}, status.Status.{Status}}, Run.{DoesCopy, MeansLayout, MeansNoLayout, PrintsCopy}, Statuses.{EndsWithFiles, is_fault, is_source, is_target}, Texts.{ending_text}}
use Rattle.df_copy.specs.declared.status.Status.TheVariants as ends

-- ---- one of the two disks, or neither

module _ (before now : Faults) (old new : Option (List ℕ)) (status : Status) (blame : Blames ends.WriteFault before.sink now.sink status) where
  abbrev Causes : Type 0
  Causes = HasCausesOfTwo ends.DiskFault ends.WriteFault before now status

  -- a refusal was printed
  refused_causes : (e : Ending)
      → now.first ≡ before.first → now.second ≡ before.second → Writes ends.WriteFault (ending_text e) ends.Refused old new status → Causes
  refused_causes e one two printed = printed_causes ends.DiskFault ends.WriteFault before now status blame (λ no.
      cc) old new (ending_text e) ends.Refused (λ no. cc) one two printed

  -- no copy is made, or none whole
  pub ending_causes : (e : Ending) → Blamed (is_source e) before.first now.first → Blamed (is_target e) before.second now.second
      → (is_fault e ≡ false → Writes ends.WriteFault (ending_text e) ends.Refused old new status)
      → (is_fault e ≡ true → (status ≡ ends.DiskFault) × (new ≡ old)) → Causes
  ending_causes Source one two refused fault = first_causes ends.DiskFault ends.WriteFault before now status blame (fault refl).0 one two
  ending_causes Target one two refused fault = second_causes ends.DiskFault ends.WriteFault before now status blame (fault refl).0 one two
  ending_causes (NotAtRest a b c) one two refused fault = refused_causes (NotAtRest a b c) one two (refused refl)
  ending_causes (TooFewClients a b) one two refused fault = refused_causes (TooFewClients a b) one two (refused refl)
  ending_causes (TooFewBlocks a b) one two refused fault = refused_causes (TooFewBlocks a b) one two (refused refl)
  ending_causes (NotBlank a) one two refused fault = refused_causes (NotBlank a) one two (refused refl)
  ending_causes (ReplyTooLong a b) one two refused fault = refused_causes (ReplyTooLong a b) one two (refused refl)
  ending_causes (BlockTooLong a b) one two refused fault = refused_causes (BlockTooLong a b) one two (refused refl)
  ending_causes (Damaged a b) one two refused fault = refused_causes (Damaged a b) one two (refused refl)

-- ---- what is printed, and how it ends

module _ (old new : Option (List ℕ)) (status : Status) where
  -- of a copy that was made
  pub copied_ends : (text : List ℕ) → Writes ends.WriteFault text ends.Done old new status → EndsWithFiles status
  copied_ends text printed = (text_ends ends.WriteFault text ends.Done ends.Memory old new status printed (λ no. cc) (λ no. cc), text_ends ends.WriteFault text ends.Done ends.Words old new status printed (λ no. cc) (λ no. cc))

  pub refused_ends : (e : OpenError) → PrintsError ends.Refused ends.DiskFault ends.WriteFault e old new status → EndsWithFiles status
  refused_ends e prints = (
    refusal_ends ends.Refused ends.DiskFault ends.WriteFault ends.Memory e old new status prints (λ no. cc) (λ no. cc) (λ no. cc),
    refusal_ends ends.Refused ends.DiskFault ends.WriteFault ends.Words e old new status prints (λ no. cc) (λ no. cc) (λ no. cc),
  )

  -- and of one that wasn't
  pub ending_prints : (T : Type 0) (layout : Layout) (e : Ending) → (is_fault e ≡ false → Writes ends.WriteFault (ending_text e) ends.Refused old new status) → (is_fault e ≡ true → (status ≡ ends.DiskFault) × (new ≡ old)) → PrintsCopy {T = T} layout (Err e) old new status
  ending_prints T layout Source refused fault = fault refl
  ending_prints T layout Target refused fault = fault refl
  ending_prints T layout (NotAtRest a b c) refused fault = refused refl
  ending_prints T layout (TooFewClients a b) refused fault = refused refl
  ending_prints T layout (TooFewBlocks a b) refused fault = refused refl
  ending_prints T layout (NotBlank a) refused fault = refused refl
  ending_prints T layout (ReplyTooLong a b) refused fault = refused refl
  ending_prints T layout (BlockTooLong a b) refused fault = refused refl
  ending_prints T layout (Damaged a b) refused fault = refused refl

  by_ending : (b : Bool) (text : List ℕ) → (b ≡ false → Writes ends.WriteFault text ends.Refused old new status)
      → (b ≡ true → (status ≡ ends.DiskFault) × (new ≡ old)) → EndsWithFiles status
  by_ending true text refused fault = let is = (fault refl).0 in (λ memory. cc (is, memory), λ words. cc (is, words))
  by_ending false text refused fault = (text_ends ends.WriteFault text ends.Refused ends.Memory old new status (refused refl) (λ no. cc) (λ no. cc), text_ends ends.WriteFault text ends.Refused ends.Words old new status (refused refl) (λ no. cc) (λ no. cc))

  pub ending_ends : (e : Ending) → (is_fault e ≡ false → Writes ends.WriteFault (ending_text e) ends.Refused old new status)
      → (is_fault e ≡ true → (status ≡ ends.DiskFault) × (new ≡ old)) → EndsWithFiles status
  ending_ends e refused fault = by_ending (is_fault e) (ending_text e) refused fault

-- ---- a source that isn't opened

pub not_opened : (layout own : Layout) (t : Told) (old new : Outside) (status : Status) (e : OpenError) → IsImage t.shown → old.first
    ≡ Some t → TellsSurvey own old.first (Err e) → new.second ≡ old.second → ((e ≡ opens.DiskFault → ⊥) → new.first ≡ after Sync old.first)
    → (IsImage t.shown → e ≡ opens.DiskFault → StopsOpening own t new.first)
    → PrintsError ends.Refused ends.DiskFault ends.WriteFault e old.written new.written status → DoesCopy layout own t old new status
not_opened layout own t old new status e whole told answer silent barrier stops prints = elim (open_fault e) [
  | inl fault ↦ inr (inl (record { fault = (prints.failing fault).0; silent = record { second = silent; written = (prints.failing fault).1 }; disk = stops whole fault }))
  | inr other ↦ inl (record {
    error = e;
    why = (rw told at answer) whole;
    other = other.0;
    prints = prints.other other.0;
    second = silent;
    first = barrier other.0 ∙ ap (after Sync) told;
  })
]

-- ---- words

pub one_meaning : (words : List (List ℕ)) (layout other : Layout)
    → OneLayout → MeansLayout words layout → MeansLayout words other → layout ≡ other
one_meaning words layout other one m n = let same : m.0 ≡ n.0 = ap (λ (ws : List (List ℕ)). get_or ws 0 []) (sym m.1 ∙ n.1) in
    one n.0 layout other (rw same at m.2) n.2

-- one word is the name
pub one_name : {X : Type 0} (bytes : X → List ℕ) (words : List X) (word : X) (name : List ℕ) (r : Option Layout)
    → word ≡ get_or words 0 word → 1 ≤ length words → length words < 2 → name ≡ bytes word
    → IfNone r ((layout : Layout) → NamesLayout name layout → ⊥) → IfNone r (MeansNoLayout (map bytes words))
one_name bytes words word name (Some layout) at least below is none = tt
one_name bytes [] word name None at least below is none = absurd (omega (arith, least))
one_name bytes (w ∷ v ∷ words) word name None at least below is none = absurd (omega (arith, below))
one_name bytes (w ∷ []) word name None at least below is none = λ layout means.
    let same : means.0 ≡ name = ap (λ (ws : List (List ℕ)). get_or ws 0 []) (sym means.1) ∙ ap bytes (sym at) ∙ sym is in
    none layout (rw same at means.2)
