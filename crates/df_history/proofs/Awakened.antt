-- A history stays lived after the boot update of its newest log, wherever that log grew as it should.
use Rattle.std.proofs.Common.{◌≡◌, inl, inr, ℕ, ◌<◌, ◌≤◌, List, [], ◌∷◌, ◌++◌, refl, sym, ◌∙◌, ap, subst, arith}
use Rattle.df_theory.{specs.{CopyPuts.{update_steps}, Units.{Units, is_some, overlay}, Shape.{Shape}, View.{View, boot_of}, Holds.{Holds}, Next.{booted}, UnitLog.{Stopped, Synced, UnitEvent, UnitLog, Wrote, add, now, now_of, settled, settled_of, wrote}, Grown.{Grown, Grows, IsSafe}, Rests.{RestsOn}, Runs.{AtEach, Puts, Step, Syncs, after_steps}, MendLaws.{mend_steps}, Upgrades.{raise_steps}}, proofs.Laws.{after_append, each_append, mend_law, mends_whole_law, one_view}}
use Rattle.df_history.{specs.{Awakened.{GrownLivedLaw, IsAwakened, RaiseLivedLaw, SafeLivedLaw}, Histories.{Among, GrowsOn, IsBegunAnew, IsLived, IsLivedMoment, StaysBare, all_settled}, OpenLaws.{AwakeLivedLaw, OpenLivedLaw}}, proofs.{Joins.{on_holds, settled_ends}, Mores.{AreOld, grows_more, more_boot}, Since.{among_low, old_boots}, Moments.{begins_law, boot_lived_law, ends_among, grown_one, made_choice, start_among, last_is}, Mendings.{dry_mend, each_last, mend_lived_law, start_same}}}

-- ---- however it grows

-- the images before the newest one grew, where one of them has a view
before_newest : (sh : Shape) (j : Units) (images : List Units) (v : View) (i : Units)
    → Among images i → (x : View) → Holds sh i x → Grows sh (j ∷ images) v → (w : View) × Grows sh images w
before_newest sh j [] v i among x holds grows = absurd among
before_newest sh j (k ∷ images) v i among x holds (here, inl begins) =
    absurd (made_choice v.checkpoint.content (k ∷ images) begins.2 i among sh x holds)
before_newest sh j (k ∷ images) v i among x holds (here, inr (history, (w, goes, grows))) = (w, grows)

-- above the boot of the start nothing more is asked of the bare view
stays_above : (sh : Shape) (rest : List Units) (b : ℕ) (images : List Units) (v : View)
    → GrowsOn sh rest images v → b < boot_of v → StaysBare sh b images → (j : Units) → StaysBare sh b (j ∷ images)
stays_above sh rest b [] v grows above stays j = tt
stays_above sh rest b (i ∷ images) v grows above stays j =
    ((λ u w at_i at_j boot. absurd (omega (arith, ap boot_of (one_view sh i u v at_i (on_holds sh rest i images v grows))))), stays)

module _ (sh : Shape) (before : UnitLog)
    (logs : List UnitLog) (start : Units) (b : ℕ) (x : View) (holds : Holds sh start x) (old : AreOld (all_settled (before ∷ logs)) b) where
  -- these images of a log, awake at the newest
  record AreAwake (images : List Units) : Type 0 where
    pub view : View
    pub grows : GrowsOn sh (all_settled (before ∷ logs)) images view
    pub above : b < boot_of view
    pub stays : StaysBare sh b images

  one_more : (images : List Units) → AreAwake images → (j : Units) (v : View) → Grows sh (j ∷ images) v → AreAwake (j ∷ images)
  one_more images are j v grows = let up = more_boot sh (all_settled (before ∷ logs)) images j are.view v are.grows grows in
      let above : b < boot_of v = omega (arith, are.above, up) in record {
        view = v;
        grows = grows_more sh (all_settled (before ∷ logs)) images b j are.view v are.grows grows old (inl are.above) (inl above);
        above = above;
        stays = stays_above sh (all_settled (before ∷ logs)) b images are.view are.grows are.above are.stays j;
      }

  grown_awake : (new es : List UnitEvent)
      → AreAwake (settled_of start es) → (v : View) → Grows sh (settled_of start (new ++ es)) v → AreAwake (settled_of start (new ++ es))
  grown_awake [] es are v grows = are
  grown_awake ((Wrote touches stands after) ∷ new) es are v grows = grown_awake new es are v grows
  grown_awake (Synced ∷ new) es are v grows = let first = before_newest sh (now_of start (new ++ es)) (settled_of start (new ++ es))
      v start (ends_among (settled_of start (new ++ es)) start (settled_ends start (new ++ es))) x holds grows in
      one_more (settled_of start (new ++ es)) (grown_awake new es are first.0 first.1) (now_of start (new ++ es)) v grows
  grown_awake ((Stopped after) ∷ new) es are v grows = let first = before_newest sh after (settled_of start (new ++ es))
      v start (ends_among (settled_of start (new ++ es)) start (settled_ends start (new ++ es))) x holds grows in
      one_more (settled_of start (new ++ es)) (grown_awake new es are first.0 first.1) after v grows

grown_same : (sh : Shape) (log before : UnitLog) (logs : List UnitLog)
    → IsAwakened sh log before logs → IsLived sh (before ∷ logs) → (new : List UnitEvent)
    → Grown sh (record { start = log.start; events = new ++ log.events })
    → IsAwakened sh (record { start = log.start; events = new ++ log.events }) before logs
grown_same sh log before logs awake lived new grown = let begun = awake.begun in
    let g = grown_one sh (record { start = log.start; events = new ++ log.events }) begun.view begun.holds grown in
    let old = old_boots sh before logs log.start begun.view lived begun.start begun.holds in
    let are = grown_awake sh before logs log.start (boot_of begun.view) begun.view begun.holds
    old new log.events (record { view = begun.newest; grows = begun.grows; above = awake.raised; stays = begun.stays }) g.view g.grows in
    record {
      begun = record { start = begun.start; view = begun.view; holds = begun.holds; newest = are.view; fair = g.fair; grows = are.grows; stays = are.stays };
      raised = are.above;
    }

pub grown_lived_law : GrownLivedLaw
grown_lived_law sh log later before logs awake lived (new, grew, same) grown =
    let is : record { start = log.start; events = new ++ log.events } ≡ later = λ i. record { start = sym same i; events = sym grew i } in
    subst (λ (l : UnitLog). IsAwakened sh l before logs) is (grown_same sh log before logs awake lived new (rw (sym is) at grown))

pub safe_lived_law : SafeLivedLaw
safe_lived_law sh log later before logs awake lived (new, grew, same) safe = record {
  lived = ((grown_lived_law sh log later before logs awake lived (new, grew, same) safe.grown).begun, lived);
  synced = ((grown_lived_law sh log (add Synced later) before logs awake lived (Synced ∷ new, ap (λ (es : List UnitEvent). Synced ∷ es) grew, same) safe.synced).begun, lived);
  stopped = λ image left chance. ((grown_lived_law sh log (add (Stopped image) later) before logs awake lived (Stopped image ∷ new, ap (λ (es : List UnitEvent). Stopped image ∷ es) grew, same) (safe.stopped image left chance)).begun, lived);
}

-- at each moment of whatever keeps it safe
first_safe : (sh : Shape) (ss : List Step) (log : UnitLog) → AtEach (IsSafe sh) log ss → IsSafe sh log
first_safe sh [] log at = at
first_safe sh (s ∷ ss) log at = at.0

awake_steps : (sh : Shape) (before : UnitLog) (logs : List UnitLog) → IsLived sh (before ∷ logs) → (ss : List Step) (log : UnitLog)
    → IsAwakened sh log before logs → AtEach (IsSafe sh) log ss → AtEach (IsLivedMoment sh (before ∷ logs)) log ss
awake_steps sh before logs lived [] log awake at = safe_lived_law sh log log before logs awake lived ([], refl, refl) at
awake_steps sh before logs lived ((Puts put) ∷ ss) log awake at = (
  safe_lived_law sh log log before logs awake lived ([], refl, refl) at.0,
  awake_steps sh before logs lived ss (wrote put log) (grown_lived_law sh log (wrote put log) before logs awake lived
      (Wrote (λ place. is_some (put place)) put (overlay put (now log)) ∷ [], refl, refl) (first_safe sh ss (wrote put log) at.1).grown) at.1,
)
awake_steps sh before logs lived (Syncs ∷ ss) log awake at = (
  safe_lived_law sh log log before logs awake lived ([], refl, refl) at.0,
  awake_steps sh before logs
      lived ss (add Synced log) (grown_lived_law sh log (add Synced log) before logs awake lived (Synced ∷ [], refl, refl) at.0.synced) at.1,
)

pub awake_lived_law : AwakeLivedLaw
awake_lived_law sh log before logs begun lived above ss at =
    awake_steps sh before logs lived ss log (record { begun = begun; raised = above }) at

-- ---- the open

pub raise_lived_law : RaiseLivedLaw
raise_lived_law sh log before logs w table headers copies d puts lived may dry boot =
    let mends = mend_law sh log w table headers copies may in let mended : UnitLog = after_steps (mend_steps headers copies) log in
    let done : UnitLog = after_steps (update_steps puts) mended in
    let moments = mend_lived_law sh log before logs w table headers copies lived may in
    let lived_mended : IsLived sh (mended ∷ before ∷ logs) =
    (each_last (IsLivedMoment sh (before ∷ logs)) (mend_steps headers copies) log moments).lived in
    let boots = boot_lived_law sh mended before
    logs w d puts lived_mended mends.1 (dry_mend headers copies log dry) boot (mends_whole_law sh log w table headers copies may).copies in
    let lived_done : IsLived sh (done ∷ before ∷ logs) =
    (each_last (IsLivedMoment sh (before ∷ logs)) (update_steps puts) mended boots.0).lived in
    let same : after_steps (raise_steps headers copies puts) log ≡ done = after_append (mend_steps headers copies) (update_steps puts) log in
    let starts : done.start ≡ log.start = start_same (update_steps puts) mended ∙ start_same (mend_steps headers copies) log in
    let awake : IsAwakened sh done before logs = record { begun = lived_done.0; raised = above done lived_done.0 boots.1 starts } in (
      each_append (IsLivedMoment sh (before ∷ logs)) (mend_steps headers copies) (update_steps puts) log moments boots.0,
      rw (sym same) at awake,
    )
  where
    -- the boot of the start isn't above that of the view
    low : boot_of lived.0.view ≤ boot_of w
    low = omega (arith, among_low sh (all_settled (before ∷ logs)) (settled log) lived.0.newest lived.0.grows log.start (start_among log) lived.0.view lived.0.holds, ap boot_of (last_is sh (all_settled (before ∷ logs)) (settled log) lived.0.newest w lived.0.grows may.rests.grows))

    above : (l : UnitLog) (begun : IsBegunAnew sh l before logs)
        → RestsOn sh l (booted w d) → l.start ≡ log.start → boot_of begun.view < boot_of begun.newest
    above l begun rests is =
        let old : begun.view ≡ lived.0.view = one_view sh log.start begun.view lived.0.view (rw is at begun.holds) lived.0.holds in
        omega (arith, low, boot.is.boot, ap boot_of old, ap boot_of (last_is sh (all_settled (before ∷ logs)) (settled l) begun.newest (booted w d) begun.grows rests.grows))

-- ---- an open, and what follows it

pub open_lived_law : OpenLivedLaw
open_lived_law sh log logs shown w lived may places f table headers copies d puts opening =
    let new : UnitLog = record { start = shown; events = [] } in let begins = begins_law sh log logs shown w lived may places f in
    let raised =
    raise_lived_law sh new log logs w table headers copies d puts begins.1.lived opening.may_mend (λ place. refl) opening.may_boot in
    let mends = mend_law sh new w table headers copies opening.may_mend in
    let mended : UnitLog = after_steps (mend_steps headers copies) new in
    let lived_mended : IsLived sh (mended ∷ log ∷ logs) = (each_last (IsLivedMoment sh (log ∷ logs))
    (mend_steps headers copies) new (mend_lived_law sh new log logs w table headers copies begins.1.lived opening.may_mend)).lived in
    let boots = boot_lived_law sh mended log logs w d puts lived_mended mends.1 (dry_mend headers copies new (λ place. refl))
    opening.may_boot (mends_whole_law sh new w table headers copies opening.may_mend).copies in
    let same : after_steps (raise_steps headers copies puts) new ≡ after_steps (update_steps puts) mended =
    after_append (mend_steps headers copies) (update_steps puts) new in (
      raised.0,
      rw (sym same) at boots.1,
      boots.2,
      λ ss at. awake_steps sh log logs lived ss (after_steps (raise_steps headers copies puts) new) raised.1 at,
    )
