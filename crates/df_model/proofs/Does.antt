-- What each command does to the device leads on.
use Rattle.std.proofs.Common.{◌≡◌, inl, inr, ℕ, ◌+◌, ◌==◌, Bool, true, false, if◌then◌else◌, List, [], ◌∷◌, Option, Some, None, refl, sym, ◌∙◌, ap, subst, arith}
use Rattle.df_theory.{specs.{Units.{Block, BlockPlace, BlockUnit, Content, CopyPlace, CopyUnit, Parts, Units, overlay}, Trailer.{InChain}, Shape.{Shape}, View.{Checkpoint}, UnitLog.{PutsOne, UnitLog, now}, Runs.{Step}, CopyPuts.{PutsCopies}, WholeLaws.{IsStanding}}, proofs.Laws.{put_else, tidy_block_law, tidy_finish_law}}
use Rattle.df_model.{specs.{Work.{Running, Work}, Memory.{Memory, memory_of}, Blocks.{addresses}, Making.{block_of, next_address}, Refusals.{append_refusals, block_refusals, first_refusal, flush_refusals, reply_refusals}, After.{begun, checkpoint_of, finished, next_trailer, with_live, with_running, with_trailer_block}, Change.{Appends, Begins, Change, Checks, Ends, LetsGo, Lives, One, Replies, Staged, Stages, Stays, TourEnds, Writes}, Commands.{Command, Given, IsInput, after, supplied_sum, supplied_sums, supplied_verdict}, Sense.{AtEachOf, IsBacked, IsClearAddress, IsSpare, RiseFrom, ShowsOwnBlock, ShowsWritten}, Laws.{CommandLaw, DoesAdvance, DoesAdvanceTo, DoesBlock, DoesCommand, DoesFinish, IsKeptBy, UnlessRefused}}, proofs.{Entries.{entry_in}, Blocks.{first_small, kind_some, next_free, release_keeps}, Finishes.{finish_keeps, may_finish}, Staging.{stage_keeps}, Writing.{Both, SameBlocks, append_on, block_else, block_on, flush_on, idle, own_same, put_at, reply_on, stay}, OneThing.{one_thing_law}, Keeps.{IsTour, begin_keeps, check_tours, end_tours, trailer_keeps}}}

-- ---- the steps of a checkpoint

-- the chain's addresses lie below those to come
pub apart_of : (a x : ℕ) (more : List ℕ) → RiseFrom (x + 1) (a ∷ more) → x ≡ a → ⊥
apart_of a x more rise same = omega (arith, rise.0)

module _ (sh : Shape) (spell : Parts → List ℕ) (log : UnitLog) (w : Work) (sum : ℕ) (r : Running)
    (a : ℕ) (more : List ℕ) (steps : List Step) (keeps : IsKeptBy sh spell log w) (at : w.running ≡ Some r) (left : r.left ≡ a ∷ more)
    (does : DoesBlock w.view a (next_trailer sh spell w r sum) steps) where
  abbrev image : Units
  image = now log

  abbrev b : Block
  b = next_trailer sh spell w r sum

  abbrev t : Running
  t = record r { written = (a, b) ∷ r.written; left = more }

  abbrev u : Work
  u = with_trailer_block w r a b more

  abbrev later : Units
  later = overlay does.put image

  clear : IsClearAddress w.live w.view.checkpoint a
  clear = (let all : AtEachOf (IsClearAddress w.live w.view.checkpoint) (a
      ∷ more) = subst (AtEachOf (IsClearAddress w.live w.view.checkpoint)) left (keeps.sense.clear r at) in all.0)

  spare : r.parts.references a ≡ None
  spare = (let all : AtEachOf (IsSpare sh r) (a
      ∷ more) = subst (AtEachOf (IsSpare sh r)) left (keeps.sense.running r at).left.0 in all.0.unreferenced)

  shown : (k : ℕ) (x : Block) → InChain k x ((a, b) ∷ r.written) → later (BlockPlace k) ≡ Some (BlockUnit x)
  shown k x (inl here) = ap (λ (i : ℕ). later (BlockPlace i)) here.0
      ∙ put_at image does.put (BlockPlace a) (BlockUnit b) does.one ∙ ap (λ (y : Block). Some (BlockUnit y)) (sym here.1)
  shown k x (inr there) =
      let rise : RiseFrom (k + 1) (a ∷ more) = subst (RiseFrom (k + 1)) left ((keeps.sense.running r at).written k x there).1 in
      block_else image does.put a b does.one k (apart_of a k more rise) ∙ keeps.written r at k x there

  still_shown : ShowsWritten later u
  still_shown q now_is k x is = let one : t ≡ q = (let both : Some t ≡ Some q = now_is in cc) in shown k x (rw (sym one) at is)

  trailer_on : Both sh spell log w u steps
  trailer_on = let on = tidy_block_law sh log w.view does.put a b keeps.tidy clear.no_trailer does.one in
      let free : (c : ℕ) → w.view.checkpoint.parts.references a ≡ Some c → ⊥ = λ c is. cc (is, clear.unreferenced) in
      subst (λ (ss : List Step). Both sh spell log w u ss) (sym does.are) (
        record { leads = on.0; keeps = record { sense = trailer_keeps sh spell w sum r a more keeps.sense at left; tidy = on.0.tidy; written = still_shown } },
        λ backed. record {
          stands = on.1 backed.standing free;
          backed = record {
            standing = (on.1 backed.standing free).standing;
            live = λ k c is. own_same
                image later k c (block_else image does.put a b does.one k (λ same. cc (is, clear.dead, same))) (backed.live k c is);
            captured = λ q now_is k c is. let one : t ≡ q = (let both : Some t ≡ Some q = now_is in cc) in
                let there : r.parts.references k ≡ Some c = ap (λ (x : Running). x.parts.references k) one ∙ is in
                own_same image later k c (block_else image does.put a b does.one k (λ same. cc (there, spare, ap r.parts.references same)))
                (backed.captured r at k c there);
          };
        },
      )

other_copy : (put image : Units) (n : ℕ) (c : Content) → PutsOne put (CopyPlace n) (CopyUnit c) → SameBlocks image (overlay put image)
other_copy put image n c one a = put_else put image (CopyPlace n) (BlockPlace a) (CopyUnit c) one (λ same. cc (same))

four_copies : (image : Units) (c : Content) (puts : PutsCopies c)
    → SameBlocks image (overlay puts.put3 (overlay puts.put2 (overlay puts.put1 (overlay puts.put0 image))))
four_copies image c puts a = let image0 = overlay puts.put0 image in let image1 = overlay puts.put1 image0 in
    let image2 = overlay puts.put2 image1 in other_copy puts.put3 image2 3 c puts.one3 a
    ∙ other_copy puts.put2 image1 2 c puts.one2 a ∙ other_copy puts.put1 image0 1 c puts.one1 a ∙ other_copy puts.put0 image 0 c puts.one0 a

finish_on : (sh : Shape) (spell : Parts → List ℕ) (log : UnitLog) (w : Work) (sum : ℕ) (r : Running) (steps : List Step)
    → IsKeptBy sh spell log w → w.running ≡ Some r → r.left ≡ []
    → DoesFinish w.view (checkpoint_of sh spell w r sum) steps → Both sh spell log w (finished sh spell w r sum) steps
finish_on sh spell log w sum r steps keeps at done does = let c : Checkpoint = checkpoint_of sh spell w r sum in
    let u = finished sh spell w r sum in let on = tidy_finish_law
    sh log w.view c does.puts keeps.tidy (may_finish sh spell w r sum keeps.sense (keeps.sense.running r at) done) (keeps.written r at) in
    let same = four_copies (now log) c.content does.puts in
    let later = overlay does.puts.put3 (overlay does.puts.put2 (overlay does.puts.put1 (overlay does.puts.put0 (now log)))) in
    subst (λ (ss : List Step). Both sh spell log w u ss) (sym does.are) (
      record { leads = on.0; keeps = record { sense = finish_keeps sh spell w r sum keeps.sense at done; tidy = on.0.tidy; written = λ q none. absurd (cc) } },
      λ backed. let stands = on.1 backed.standing (backed.captured r at) in record {
        stands = stands;
        backed = record {
          standing = stands.standing;
          live = λ a k is. own_same (now log) later a k (same a) (backed.live a k is);
          captured = λ q none. absurd (cc);
        };
      },
    )

-- ---- all of them

-- what isn't refused is done
done : {E : Type 0} (o : Option E) (steps : List Step) (Done : Type 0) → o ≡ None → UnlessRefused o steps Done → Done
done (Some e) steps Done none does = absurd (cc)
done None steps Done none does = does

released : (log : UnitLog) (w : Work) (a : ℕ) → IsBacked log w → IsBacked log (with_live w a None)
released log w a backed = record { standing = backed.standing; live = λ k c is. go k c (k == a) is; captured = backed.captured }
  where
    go : (k c : ℕ) (e : Bool) → (if e then None else w.live k) ≡ Some c → ShowsOwnBlock (now log) k c
    go k c true is = absurd (cc)
    go k c false is = backed.live k c is

begun_backed : (sh : Shape) (spell : Parts → List ℕ) (log : UnitLog) (w : Work) (root : List ℕ)
    → IsBacked log w → IsBacked log (with_running w (Some (begun sh spell w root)))
begun_backed sh spell log w root backed = record {
  standing = backed.standing;
  live = backed.live;
  captured = λ r at a c is. let one : begun sh spell w root ≡ r = (let both : Some (begun sh spell w root) ≡ Some r = at in cc) in
      backed.live a c (entry_in w.live (addresses sh.layout) a c (ap (λ (x : Running). x.parts.references a) one ∙ is));
}

begun_written : (sh : Shape) (spell : Parts → List ℕ) (image : Units) (w : Work) (root : List ℕ)
    → ShowsWritten image (with_running w (Some (begun sh spell w root)))
begun_written sh spell image w root r at a b is =
    let one : begun sh spell w root ≡ r = (let both : Some (begun sh spell w root) ≡ Some r = at in cc) in absurd (rw (sym one) at is)

-- a check of the scrubber changes neither blocks nor checkpoints
checked : (log : UnitLog) (w u : Work) → u.view ≡ w.view → u.live ≡ w.live → u.running ≡ w.running → IsBacked log w → IsBacked log u
checked log w u view live running backed = record {
  standing = subst (IsStanding log) (sym view) backed.standing;
  live = λ a c is. backed.live a c (ap (λ (f : ℕ → Option ℕ). f a) (sym live) ∙ is);
  captured = λ r at a c is. backed.captured r (sym running ∙ at) a c is;
}

module _ (sh : Shape)
    (spell : Parts → List ℕ) (log : UnitLog) (w : Work) (given : Given) (steps : List Step) (keeps : IsKeptBy sh spell log w) where
  abbrev m : Memory
  m = memory_of sh spell w

  advances : (r : Running) (l : List ℕ) → w.running ≡ Some r
      → r.left ≡ l → DoesAdvance sh spell w (supplied_sum given) w.running steps → DoesAdvanceTo sh spell w (supplied_sum given) r l steps
  advances r l at left does = subst (λ (k : List ℕ). DoesAdvanceTo sh spell w (supplied_sum given) r k steps)
      left (subst (λ (o : Option Running). DoesAdvance sh spell w (supplied_sum given) o steps) at does)

  tours : (u : Work) → IsTour sh spell w u → steps ≡ [] → Both sh spell log w u steps
  tours u tour none = idle sh spell log w u steps tour.view keeps (tour.keeps keeps.sense) (λ r at.
      keeps.written r (sym tour.running ∙ at)) (checked log w u tour.view tour.live tour.running) none

  -- what is done to the device leads to the state after the change
  does_change : (c : Command) (u : Work)
      → IsInput given c → Change sh spell w given c u → DoesCommand sh spell (now log) w given c steps → Both sh spell log w u steps
  does_change c u input (Stays _ idles) does = stay sh spell log w steps keeps (idles (now log) steps does)
  does_change c u input (Appends _ ps (One client request body none staged)) does = append_on sh spell log w (supplied_sum given)
      client request body steps input.fields keeps none (done (first_refusal (append_refusals m client request body)) steps _ none does)
  does_change c u input (Appends _ ps (Staged none)) does =
      flush_on sh spell log w (supplied_sums given) steps keeps none (done (first_refusal (flush_refusals m)) steps _ none does)
  does_change c u input (Stages client request body none) does = idle sh spell log w u steps refl
      keeps (stage_keeps sh spell w client request body keeps.sense none input.fields) keeps.written (checked log w u refl refl refl) does
  does_change c u input (Replies op body none) does = reply_on
      sh spell log w (supplied_sum given) op body steps keeps none (done (first_refusal (reply_refusals m op body)) steps _ none does)
  does_change c u input (Lives kind body none) does =
      block_on sh spell log w (next_address m) (block_of m.content.boot (supplied_sum given) kind body)
      steps (first_small (supplied_sums given) input.checksums) (kind_some sh spell w kind body none)
      keeps (next_free sh spell w kind body none) (done (first_refusal (block_refusals m kind body)) steps _ none does)
  does_change c u input (LetsGo address none) does =
      idle sh spell log w u steps refl keeps (release_keeps sh spell w address keeps.sense) keeps.written (released log w address) does
  does_change c u input (Begins root none) does = idle sh spell log w u steps refl keeps (begin_keeps
      sh spell w root input.fields keeps.sense none) (begun_written sh spell (now log) w root) (begun_backed sh spell log w root) does
  does_change c u input (Writes r a more at left) does =
      trailer_on sh spell log w (supplied_sum given) r a more steps keeps at left (advances r (a ∷ more) at left does)
  does_change c u input (Ends r at left) does = finish_on sh spell log w (supplied_sum given) r steps keeps at left (advances r [] at left does)
  does_change c u input (Checks x more is) does = tours u (check_tours sh spell w x.0 (supplied_verdict given)) does
  does_change c u input (TourEnds is) does = tours u (end_tours sh spell w) does

pub command_law : CommandLaw
command_law sh spell log w given c steps input keeps does =
    does_change sh spell log w given steps keeps c (after sh spell w given c).0 input (one_thing_law sh spell w given c) does
