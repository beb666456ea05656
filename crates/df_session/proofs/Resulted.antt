-- A session's answers are the result.
use Rattle.{std.proofs.Common.{◌≡◌, List, [], ◌∷◌, map, Option, Some, None, refl, sym, ◌∙◌, subst}, df_disk.specs.Told.{Told, did}}
use Rattle.{df_base.specs.{Image.{Image, IsImage}, Log.{Sync}}, df_layout.specs.declared.layout.Layout.{Layout}}
use Rattle.{df_theory.specs.Units.{BlockPlace, CopyPlace, HeaderPlace, Place, PreparePlace, ReplyPlace}, df_units.specs.Bytes.{unit_at}}
use Rattle.df_model.specs.{Memory.{Memory, memory_of}, Supply.{Shown, next, result, shown_after}, Work.{Work}}
use Rattle.df_replica.{specs.{Below.{DataFile, State as Replica, shape, told_after}, Leaving.{IsReadPlace, SparesReads}, Opened.{MendsAll}, Reading.{shown_of}, Serving.{Firm, IsCall, Keeps}, Session.{Act, Exchange, acts_in, answers_in, command_in}}, proofs.Laws.{added_is_told, shown_after as shown_then}}
use Rattle.df_session.{specs.{Agreeing.{AgreeShown}, Results.{IsResult}, Codec.{codec}, Links.{AreCalls, EndsCalls, More}, Resulting.{AnswersResult}}, proofs.OneMore.{one_more_is_result}}

-- ---- answers

-- calls one after the other answer the result
pub calls_result : (file : DataFile) (s u : Replica) (old new : Option Told) (xs : List Exchange) (t : Told) (w : Work) (shown : Shown)
    → s.file ≡ file → old ≡ Some t → AreCalls s old xs u new → Keeps Firm s w None → IsImage t.shown
    → AgreeShown file.layout (shown_of file t.shown) shown
    → answers_in xs ≡ result (shape file) (codec file) shown w (map command_in (acts_in xs))
calls_result file s u old new [] t w shown of told calls k whole agree = refl
calls_result file s u old new (x ∷ xs) t w shown of told (More v mid made later) k whole agree =
    let call : IsCall x.act.given x.act.command s v (Some t) mid (Some x.answer) = rw (← told) made.call in
    let one = one_more_is_result x.act.given x.act.command s v t mid x.answer w shown call k whole (rw of agree) in
    let is : IsResult file shown w x.act.command x.answer v (told_after call.events t) = rw (← of) one.1 in
    let m : Memory = memory_of (shape file) (codec file).spell w in
    let rest = calls_result file v u mid new xs (told_after call.events t) (next (shape file) (codec file) shown w x.act.command).0
    (shown_after (codec file) shown m x.act.command) is.file_is one.0 later is.keeps is.whole is.shown_is in (λ i. is.answer_is i ∷ rest i)

-- ---- a session that was opened

-- what spares the places that calls read agrees with what was there
pub unit_spared : (file : DataFile) (before after : Image) → SparesReads file before after → (place : Place)
    → IsReadPlace file.layout place → unit_at file.layout file.cluster after place ≡ unit_at file.layout file.cluster before place
unit_spared file before after spares (CopyPlace k) read = absurd read
unit_spared file before after spares (HeaderPlace k) read = absurd read
unit_spared file before after spares (PreparePlace k) read = spares.units.prepare k
unit_spared file before after spares (ReplyPlace k) read = spares.units.reply k
unit_spared file before after spares (BlockPlace k) read = spares.units.block k

agree_spared : (file : DataFile) (before after : Image) (shown : Shown) → SparesReads file before after
    → AgreeShown file.layout (shown_of file before) shown → AgreeShown file.layout (shown_of file after) shown
agree_spared file before after shown spares agree = record {
  units = record {
    prepare = λ k. spares.units.prepare k ∙ agree.units.prepare k;
    reply = λ k. spares.units.reply k ∙ agree.units.reply k;
    block = λ k. spares.units.block k ∙ agree.units.block k;
  };
  classes = λ place read none.
      spares.classes place read ∙ agree.classes place read (sym (unit_spared file before after spares place read) ∙ none);
}

-- the calls that were answered
calls_answered : (s t : Replica) (old new : Option Told) (xs : List Exchange) (failed : Option Act)
    → EndsCalls s t old new xs failed → (u : Replica) × (mid : Option Told) × AreCalls s old xs u mid
calls_answered s t old new xs None calls = (t, new, calls)
calls_answered s t old new xs (Some a) calls = (calls.0, calls.1, calls.2)

-- what is told after the mending of an open shows an image, which agrees with what was shown before it in all that calls read
pub record OpenedAgrees (s : Replica) (mended : Option Told) (shown : Shown) : Type 0 where
  pub first : Told
  pub told : mended ≡ Some first
  pub whole : IsImage first.shown
  pub agrees : AgreeShown s.file.layout (shown_of s.file first.shown) shown

pub opened_agrees : (s : Replica) (t : Told) (mended : Option Told) (over : MendsAll t s mended) (shown : Shown)
    → IsImage t.shown → AgreeShown s.file.layout (shown_of s.file t.shown) shown → OpenedAgrees s mended shown
opened_agrees s t mended over shown whole agree = let first : Told = told_after over.mending.events (did Sync t) in
    let spared : SparesReads s.file t.shown first.shown =
    subst (SparesReads s.file t.shown) (sym (shown_then over.mending.events (did Sync t))) (over.mending.spares t.shown whole) in record {
      first = first;
      told = over.mending.told ∙ added_is_told over.mending.events (did Sync t);
      whole = spared.whole;
      agrees = agree_spared s.file t.shown first.shown shown spared agree;
    }

-- its calls answer the result over what the disk showed before the mending
pub opened_answers : (s : Replica) (t : Told) (mended : Option Told) (over : MendsAll t s mended) (whole : IsImage t.shown)
    (w : Work) (k : Keeps Firm s w None) (last : Replica) (new : Option Told) (failed : Option Act) (shown : Shown)
    → AgreeShown s.file.layout (shown_of s.file t.shown) shown
    → (xs : List Exchange) → EndsCalls s last mended new xs failed → AnswersResult s.file shown w xs
opened_answers s t mended over whole w k last new failed shown agree xs ends =
    let calls = calls_answered s last mended new xs failed ends in let here = opened_agrees s t mended over shown whole agree in
    calls_result s.file s calls.0 mended calls.1 xs here.first w shown refl here.told calls.2 k here.whole here.agrees

-- what is shown agrees with itself
pub agree_self : (layout : Layout) (shown : Shown) → AgreeShown layout shown shown
agree_self layout shown =
    record { units = record { prepare = λ k. refl; reply = λ k. refl; block = λ k. refl }; classes = λ place read none. refl }
