-- What a word does with a file that may be hurt is of damage.
use Rattle.std.{proofs.Common.{◌≡◌, ◌<◌, ◌^◌, inl, inr, List, [], ◌∷◌, Option, Some, None, sym, ◌∙◌, subst}, specs.Prelude.{Ok, Err}}
use Rattle.{df_base.specs.Log.{Sync}, df_disk.{specs.Told.{Told, did}, proofs.Laws.{goes_told}}, df_units.specs.Bytes.{unit_at}}
use Rattle.{df_layout.specs.declared.layout.Layout.{Layout}, df_model.specs.{Commands.{Answer}, Sense.{IsWork}, Work.{Work}}}
use Rattle.df_session.{specs.{Begun.{begun_work}, Below.{FindsHad, IsNeedless, RefusesHurt, MayBeHurt, OpensAsLeft, DataFile, State as Replica, shape, spelling}, Lending.{GivesOwn}, Serving.{Firm, Keeps, next}, Session.{Act, Exchange}, WrittenFor.{IsWrittenFor, IsWrittenIn}, Found.{FoundFile}, Owning.{AllGiveOwn, GiveOwn}, Links.{AreCalls, Calls, EndsCalls, More}}, proofs.Laws.{call_is_own, call_is_the_one, file_there, opened_is_written_for, answer_is_of_hurt, headers_may_be_hurt, probe_is_of_hurt, two_copies_are_enough}}
use Rattle.df_theory.specs.{Found.{IsFound}, View.{View, boot_of}}
use Rattle.df_top.specs.{Acknowledging.{run_calls, script_calls}, Hurting.{ComesOfHurt, RefusesCopies, RunsOverHurt, ServesHurt, ServesOverHurt, WordReadsOwn}, Opening.{RefusesFile}, Outside.{Outside}, Run.{ComesTo, Does, RefusesSuperblock, Runs, ServesIn, ServesOwn, Works}, declared.mode.Mode.{Mode}, declared.mode.Mode.TheVariants.{Format, Run, Recover, Inspect, Scrub, Workload, Upgrade, Paced}, declared.status.Status.{Status}}

-- ---- reads

gives : (a : Act) (s u : Replica) (w : Work) (old new : Option Told) (x : Answer)
    → Calls a s u old new (Some x) → Keeps Firm s w None → IsWrittenIn s.file old w → GivesOwn s old w a.command x
gives a s u w None new x call keeps written = tt
gives a s u w (Some t) new x call keeps written = λ chance.
    (call_is_the_one a.given a.command s u w t new x call.call keeps chance, call_is_own a.given a.command s u w t new x call.call keeps written chance)

all_give : (w : Work) (s t : Replica) (old new : Option Told) (xs : List Exchange)
    → Keeps Firm s w None → IsWrittenIn s.file old w → (are : AreCalls s old xs t new) → GiveOwn s old w xs are
all_give w s t old new [] keeps written are = tt
all_give w s t old new (x ∷ xs) keeps written (More u mid made rest) = let call = made.call in
    let later : Work = (next s.file w x.act.given x.act.command).0 in
    let on : IsWrittenIn u.file mid later = rw call.file (call.written w keeps written) in (
      gives x.act s u w old mid x.answer made keeps written,
      all_give later u t mid new xs (call.answers Firm w keeps).1 on rest,
    )

ends_give : (w : Work) (s t : Replica) (old new : Option Told) (xs : List Exchange) (failed : Option Act)
    → Keeps Firm s w None → IsWrittenIn s.file old w → (ends : EndsCalls s t old new xs failed) → AllGiveOwn s t old new w xs failed ends
ends_give w s t old new xs None keeps written ends = all_give w s t old new xs keeps written ends
ends_give w s t old new xs (Some a) keeps written ends = all_give w s ends.0 old ends.1 xs keeps written ends.2

-- ---- a word

module _ (file : DataFile) (view : View) (t : Told) (may : MayBeHurt file view t) (unspent : boot_of view < 2 ^ 62) where
  -- what calls begin with on a file that was found
  abbrev Stands : FoundFile file.layout t → Type 0
  Stands found = (v : View) → IsFound (shape found.replica.file) (unit_at found.replica.file.layout found.replica.file.cluster t.shown) v
      → Keeps Firm found.replica (begun_work found.replica.file t.shown v) None

  module _ (found : FoundFile file.layout t) (finds : FindsHad file view t found.found) (stand : Stands found) where
    abbrev w : Work
    w = begun_work file t.shown finds.found

    same : found.replica.file ≡ file
    same = file_there file.layout t found ∙ finds.of

    stands : Keeps Firm found.replica w None
    stands = subst (λ (x : DataFile). Keeps Firm found.replica (begun_work x t.shown finds.found) None) same
        (stand finds.found (rw (sym same) at finds.is_found))

    -- all that it has was written, as the disk tells after the boot update
    written : IsWrittenIn found.replica.file found.mended w
    written = let goes = goes_told (did Sync t) found.mended (found.mending.events, found.mending.told) in
        let there = file_there file.layout t found in let own : IsWrittenFor found.found.file goes.0.log w =
        opened_is_written_for file view t found.found goes.0.log w.view.checkpoint.content finds goes.2.grew (rw there at stands.0) in
        subst (λ (o : Option Told). IsWrittenIn found.replica.file o w) (sym goes.1) (rw (sym there) at own)

    -- the reads of calls on what was found
    reads_own : (to : Replica) (now : Option Told) (xs : List Exchange) (failed : Option Act)
        → (calls : EndsCalls found.replica to found.mended now xs failed) → AllGiveOwn found.replica to found.mended now w xs failed calls
    reads_own to now xs failed calls = ends_give w found.replica to found.mended now xs failed stands written calls

  module _ (old new : Outside) (status : Status) where
    refuses : (r : RefusesFile file.layout t old new status) → RefusesHurt file view t r.error
    refuses r = answer_is_of_hurt file view t (Err r.error) may unspent r.is.why r.is.other

    word_reads : (mode : Mode)
        (found : FoundFile file.layout t) (works : Works mode file.layout t found old new status) (finds : FindsHad file view t found.found)
        → WordReadsOwn mode file.layout t found old new status works (begun_work file t.shown finds.found)
    word_reads (Format layout cluster) found works finds = absurd works
    word_reads Upgrade found works finds = absurd works
    word_reads Run found serves finds = let c = script_calls serves.session in
        reads_own found finds serves.calls.stands c.to c.new c.exchanges c.failed c.calls
    word_reads (Paced pace) found serves finds = let c = script_calls serves.session in
        reads_own found finds serves.calls.stands c.to c.new c.exchanges c.failed c.calls
    word_reads (Workload seed count) found works finds = let c = run_calls works.worked in
        reads_own found finds works.calls.stands c.to c.new c.exchanges c.failed c.calls
    word_reads case found works finds = tt

    comes_of_hurt : (mode : Mode) (comes : ComesTo mode file.layout t old new status)
        → ComesOfHurt file view t file.layout mode old new status comes
    comes_of_hurt mode (inl r) = refuses r
    comes_of_hurt mode (inr (inl fails)) = tt
    comes_of_hurt mode (inr (inr works)) =
        let finds : FindsHad file view t works.0.found = answer_is_of_hurt file view t (Ok works.0.found) may unspent works.0.is_opened in
        (finds, word_reads mode works.0 works.1 finds)

    serves_hurt : (mode : Mode) → Does mode file.layout t old new status → ServesHurt file view t mode old new status
    serves_hurt mode does = record { does = does; of_hurt = comes_of_hurt mode does.1 }

    -- ---- the superblock

    needless : IsNeedless file t → OpensAsLeft file view t
    needless (inl copies) = two_copies_are_enough file view t may unspent copies.0 copies.1 copies.2
    needless (inr headers) = headers_may_be_hurt file view t may unspent headers

    copies : RefusesSuperblock t old new status → RefusesCopies file view t old new status
    copies r = let probes = probe_is_of_hurt file view t may in let both = probes.refused r.error r.is in
        record { refuses = r; damage = both.0; hurt = both.1; stood = λ rest two. probes.usable rest two r.error r.is; needed = λ none. (needless none).opens.usable r.error r.is }

    own : (mode : Mode) → ServesOwn mode t old new status → ServesHurt file view t mode old new status
    own mode serves = serves_hurt mode (rw ((probe_is_of_hurt file view t may).layout serves.layout serves.shown) at serves.serves)

pub serves_over_hurt : (mode : Mode) (layout : Layout) (old new : Outside) (status : Status)
    → ServesIn mode layout old new status → ServesOverHurt mode layout old new status
serves_over_hurt mode layout old new status serves = λ file view t same told may unspent.
    serves_hurt file view t may unspent old new status mode (rw same at (serves t told may.whole))

pub runs_over_hurt : (mode : Mode) (old new : Outside) (status : Status) → Runs mode old new status → RunsOverHurt mode old new status
runs_over_hurt mode old new status runs = λ file view t told may unspent. elim (runs t told may.whole) [
  | inl nothing ↦ inl nothing
  | inr (inl refuses) ↦ inr (inl (copies file view t may unspent old new status refuses))
  | inr (inr serves) ↦ inr (inr (own file view t may unspent old new status mode serves))
]
