-- Two tours of the scrubber over what agrees list the same blocks.
use Rattle.std.{proofs.{Common.{◌≡◌, inl, inr, ℕ, zero, suc, ◌+◌, ◌≤◌, List, ◌++◌, length, Option, Some, None, refl, sym, ◌∙◌, ap, subst, arith}, lemmas.Bool.{and_from, le-leb}}, specs.List.{range_with_len}}
use Rattle.{df_base.specs.Image.{Image}, df_inspect.specs.Reports.{failing_texts}, df_theory.specs.Units.{AnyUnit, BlockPlace}}
use Rattle.{df_layout.specs.declared.{damage.Finding.{Finding}, layout.Layout.{Layout}}, df_units.specs.Meaning.{layout_of}}
use Rattle.df_model.specs.{Blocks.{Blocks, entries, entry, reference_in, referenced_in}, Memory.{Memory}, Reading.{failing, with_finding}, Supply.{Shown, block_given, check_of, class_at, class_or, verdict_of}, declared.answers.Scrubbed.TheVariants.{TourEnd}}
use Rattle.df_session.{specs.{Below.{DataFile, State as Replica, failing_in, grid_with}, Leaving.{SparesReads}, Reading.{shown_of}, Agreeing.{AgreeShown}, Found.{FoundFile}}, proofs.Laws.{file_there, layout_there}}
use Rattle.df_script_model.specs.Texts.{scrubbed_text}
use Rattle.df_top.{specs.{Outside.{PrintsLine}, Scrubs.{PrintsTour, ScrubsFile, failing_blocks, tour_report, tour_status}, declared.status.Status.{Status}}, proofs.Laws.{unit_spared}}
use Rattle.df_lifetime.{specs.Printed.{HasEnded, OnFile, PrintsOne, ScrubHasOneText, Twice}, proofs.{Alike.{agree_there, blocks_there, file_alike, memory_alike}, OneText.{same_prints}}}

-- ---- a check

module _ (layout : Layout) (one other : Shown) (agree : AgreeShown layout one other) where
  class_case : (a : ℕ) → 1 ≤ a → a ≤ layout.blocks → (o : Option AnyUnit)
      → one.units (BlockPlace a) ≡ o → class_or o (one.damage (BlockPlace a)) ≡ class_or o (other.damage (BlockPlace a))
  class_case a from to None is = agree.classes (BlockPlace a) (and_from _ _ (le-leb 1 a from) (le-leb a layout.blocks to)) is
  class_case a from to (Some x) is = refl

  check_alike : (a c : ℕ) → 1 ≤ a → a ≤ layout.blocks → check_of one (a, c) ≡ check_of other (a, c)
  check_alike a c from to = let class : class_at one (BlockPlace a) ≡ class_at other (BlockPlace a) =
      class_case a from to (one.units (BlockPlace a)) refl
      ∙ ap (λ (o : Option AnyUnit). class_or o (other.damage (BlockPlace a))) (agree.units.block a) in
      λ i. verdict_of (block_given (Some c) (agree.units.block a i) (class i))

  one_alike : (a : ℕ) (known : Option ℕ) (rest : List (ℕ × ℕ)) → 1 ≤ a
      → a ≤ layout.blocks → failing one rest ≡ failing other rest → failing one (entry a known rest) ≡ failing other (entry a known rest)
  one_alike a None rest from to more = more
  one_alike a (Some c) rest from to more = λ i. with_finding a (check_alike a c from to i) (more i)

  -- what fails among the blocks at these addresses
  failing_alike : (f : ℕ → Option ℕ) (a n : ℕ)
      → 1 ≤ a → a + n ≤ layout.blocks + 1 → failing one (entries f (range_with_len a n)) ≡ failing other (entries f (range_with_len a n))
  failing_alike f a zero from to = refl
  failing_alike f a (suc n) from to = one_alike
      a (f a) (entries f (range_with_len (a + 1) n)) from (omega (arith, to)) (failing_alike f (a + 1) n (omega arith) (omega (arith, to)))

-- ---- a tour

tour_ended : (s : Replica) (image : Image) (old new : Option (List ℕ)) (status : Status) → HasEnded status
    → PrintsTour s image old new status → PrintsLine (tour_report s image) (tour_status (length (failing_blocks s image))) old new status
tour_ended s image old new status ended (inl prints) = prints
tour_ended s image old new status ended (inr stops) = absurd (subst HasEnded stops.fault ended)

module _ (layout : Layout) (runs : Twice layout (OnFile layout (ScrubsFile layout)))
    (agree : AgreeShown layout (shown_of runs.one.does.0.replica.file
    runs.one.does.1.after.shown) (shown_of runs.one.does.0.replica.file runs.other.does.1.after.shown)) where
  abbrev here_found : FoundFile layout runs.one.told
  here_found = runs.one.does.0

  abbrev there_found : FoundFile layout runs.other.told
  there_found = runs.other.does.0

  abbrev one : ScrubsFile layout runs.one.told here_found runs.one.old runs.one.new runs.one.status
  one = runs.one.does.1

  abbrev other : ScrubsFile layout runs.other.told there_found runs.other.old runs.other.new runs.other.status
  other = runs.other.does.1

  abbrev s : Replica
  s = here_found.replica

  abbrev u : Replica
  u = there_found.replica

  known : s.blocks ≡ u.blocks
  known = blocks_there layout runs.one.told here_found ∙ ap (λ (m : Memory). m.blocks) (memory_alike layout
      runs.one.told.shown runs.other.told.shown runs.same here_found.found there_found.found here_found.is_opened there_found.is_opened)
      ∙ sym (blocks_there layout runs.other.told there_found)

  file : s.file ≡ u.file
  file = file_there layout runs.one.told here_found ∙ file_alike layout
      runs.one.told.shown runs.other.told.shown runs.same here_found.found there_found.found here_found.is_opened there_found.is_opened
      ∙ sym (file_there layout runs.other.told there_found)

  here : AgreeShown s.file.layout (shown_of s.file one.after.shown) (shown_of s.file other.after.shown)
  here = subst (λ (l : Layout). AgreeShown l (shown_of s.file one.after.shown) (shown_of s.file other.after.shown))
      (sym (layout_there layout runs.one.told here_found)) agree

  listed : failing_blocks s one.after.shown ≡ failing_blocks u other.after.shown
  listed = failing_alike s.file.layout (shown_of s.file one.after.shown)
      (shown_of s.file other.after.shown) here (reference_in s.blocks) 1 s.file.layout.blocks (omega arith) (omega arith)
      ∙ ap (λ (b : Blocks). failing_in (grid_with s.file s.boot b) other.after.shown) known
      ∙ ap (λ (f : DataFile). failing_in (grid_with f s.boot u.blocks) other.after.shown) file

  report : tour_report s one.after.shown ≡ tour_report u other.after.shown
  report = λ i.
      failing_texts (listed i) ++ scrubbed_text (TourEnd (length (referenced_in (layout_of (file i).layout) (known i))) (length (listed i)))

  tours_print_one : PrintsOne runs.one runs.other
  tours_print_one =
      same_prints (tour_report s one.after.shown) (tour_report u other.after.shown) (tour_status (length (failing_blocks s one.after.shown))) (tour_status (length (failing_blocks u other.after.shown))) (OnFile layout (ScrubsFile layout)) runs.one runs.other
      report (ap (λ (l : List Finding). tour_status (length l)) listed) runs.ended.0 runs.ended.1
      (tour_ended s one.after.shown runs.one.old.written runs.one.new.written runs.one.status runs.ended.0 one.prints)
      (tour_ended u other.after.shown runs.other.old.written runs.other.new.written runs.other.status runs.ended.1 other.prints)

-- ---- what a mending left

-- two images that agree, each after its mending
spared_agree : (file : DataFile) (a b before after : Image) → SparesReads file a before → SparesReads file b after
    → AgreeShown file.layout (shown_of file a) (shown_of file b) → AgreeShown file.layout (shown_of file before) (shown_of file after)
spared_agree file a b before after one other agree = record {
  units = record {
    prepare = λ k. one.units.prepare k ∙ agree.units.prepare k ∙ sym (other.units.prepare k);
    reply = λ k. one.units.reply k ∙ agree.units.reply k ∙ sym (other.units.reply k);
    block = λ k. one.units.block k ∙ agree.units.block k ∙ sym (other.units.block k);
  };
  classes = λ place read none. one.classes place read
      ∙ agree.classes place read (sym (unit_spared file a before one place read) ∙ none) ∙ sym (other.classes place read);
}

pub scrub_has_one_text : ScrubHasOneText
scrub_has_one_text layout runs = let here : FoundFile layout runs.one.told = runs.one.does.0 in
    let there : FoundFile layout runs.other.told = runs.other.does.0 in
    let one : ScrubsFile layout runs.one.told here runs.one.old runs.one.new runs.one.status = runs.one.does.1 in
    let other : ScrubsFile layout runs.other.told there runs.other.old runs.other.new runs.other.status = runs.other.does.1 in
    let s : Replica = here.replica in let of : s.file.layout ≡ layout = layout_there layout runs.one.told here in
    let file : s.file ≡ there.replica.file =
    file_there layout runs.one.told here ∙ file_alike layout runs.one.told.shown
    runs.other.told.shown runs.same here.found there.found here.is_opened there.is_opened ∙ sym (file_there layout runs.other.told there) in
    let spared : SparesReads s.file runs.other.told.shown other.after.shown = rw (sym file) at other.spares in
    let agree = spared_agree s.file runs.one.told.shown runs.other.told.shown one.after.shown
    other.after.shown one.spares spared (agree_there layout runs.one.told.shown runs.other.told.shown runs.same s.file of) in
    tours_print_one layout runs (rw (← of) agree)
