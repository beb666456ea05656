-- After a checkpoint of a table that was done the disk shows its rows in the referenced blocks, in their order.
use Rattle.std.{proofs.{Common.{◌≡◌, ℕ, zero, suc, ◌||◌, Bool, if◌then◌else◌, List, [], ◌∷◌, ◌++◌, append-nil, append_assoc, map, Option, Some, None, refl, sym, ◌∙◌, ap, subst, arith, eq-eqb, ne_eqb}, lemmas.List.Elements.{All-head, All-tail}}, specs.Prelude.{All, replicate}}
use Rattle.std.specs.FinMap as maps
use Rattle.{df_base.{specs.{Image.{IsImage}, Log.{Event}}, proofs.Laws.{no_some}}, df_disk.specs.Told.{Told, did}}
use Rattle.df_theory.specs.{UnitLog.{put_one}, Units.{AnyUnit, Block, BlockPlace, BlockUnit, Units, or_else}}
use Rattle.{df_units.specs.Bytes.{unit_at}, df_rows.specs.{Blocks.{bodies_of}, Limits.{rows_in_block}}}
use Rattle.df_model.{specs.{After.{after_running, after_step_of, begun, with_live, with_running}, Blocks.{addresses, entries, entry, sum_at}, Commands.{Advance, Answer, Begin, Command, Release, ToAdvance, WriteBlock, supplied_sum, supplied_sums}, Making.{block_of, next_address}, Memory.{Memory, course, course_of, memory_of}, Sense.{AtEachOf, IsSpare, IsWork}, Supply.{puts_of, step_puts, trailer_puts, unless}, Work.{Running, Work, is_captured, is_known, is_of, kept}, declared.errors.BlockError.{BlockError}}, proofs.Laws.{block_may_law, entries_same, entry_at}}
use Rattle.df_session.{specs.{Below.{DataFile, State as Replica, memory, shape, spelling, told_after}, Leaving.{image_after}, Links.{AreCalls, Calls, More, NoCalls}, Serving.{Firm, Keeps, next}, Session.{Act, Exchange, acts_in, command_in}}, proofs.Laws.{added_is_told}}
use Rattle.df_table.{specs.{Laws.{RowsInOrder}, Policy.{writes}, Table.{ShowsBodies, ShowsBody, references_of}, Turns.{IsAccepted, MakeAll, WasAccepted}}, proofs.{Finished.{no_course}, Placed.{LowHeld, NoLive, OnlyLive, entries_last, low_more, lower, none_from, none_live, one_less}, Stayed.{began, released, wrote}}}

-- ---- one command after the other

record First (c : Command) (cs : List Command) (s t : Replica) (old new : Option Told) : Type 0 where
  exchange : Exchange
  replica : Replica
  mid : Option Told
  is : exchange.act.command ≡ c
  calls : Calls exchange.act s replica old mid (Some exchange.answer)
  accepted : WasAccepted exchange
  rest : MakeAll cs replica t mid new

first_of : (c : Command) (cs : List Command) (s t : Replica) (old new : Option Told) (xs : List Exchange)
    → AreCalls s old xs t new → map command_in (acts_in xs) ≡ c ∷ cs → All WasAccepted xs → First c cs s t old new
first_of c cs s t old new [] calls is accepted = absurd (cc (is))
first_of c cs s t old new (x ∷ xs) (More u mid call rest) is accepted = record {
  exchange = x;
  replica = u;
  mid = mid;
  is = (let same : x.act.command ≡ c = cc in same);
  calls = call;
  accepted = All-head WasAccepted x xs accepted;
  rest = record { exchanges = xs; calls = rest; are = (let same : map command_in (acts_in xs) ≡ cs = cc in same); accepted = All-tail WasAccepted x xs accepted };
}

none_of : (s t : Replica) (old new : Option Told) (xs : List Exchange)
    → AreCalls s old xs t new → map command_in (acts_in xs) ≡ [] → (t ≡ s) × (new ≡ old)
none_of s t old new [] NoCalls is = (refl, refl)
none_of s t old new (x ∷ xs) calls is = absurd (cc (is))

-- ---- what is shown of blocks

module _ (f : ℕ → Option ℕ) (before after : Units) where
  entry_stays : (a : ℕ) (rest : List (ℕ × ℕ)) → ((c : ℕ) → f a ≡ Some c → after (BlockPlace a) ≡ before (BlockPlace a)) → ((bodies : List
      (List ℕ)) → ShowsBodies before rest bodies → ShowsBodies after rest bodies) → (o : Option ℕ) → f a ≡ o → (bodies : List (List ℕ))
      → ShowsBodies before (entry a o rest) bodies → ShowsBodies after (entry a o rest) bodies
  entry_stays a rest here more None is bodies shows = more bodies shows
  entry_stays a rest here more (Some c) is [] shows = absurd shows
  entry_stays a rest here more (Some c) is (body ∷ bodies) shows =
      (record { block = shows.0.block; there = here c is ∙ shows.0.there; sum = shows.0.sum; own = shows.0.own; body_is = shows.0.body_is }, more bodies shows.1)

  bodies_stay : (xs : List ℕ) → ((a c : ℕ) → f a ≡ Some c → after (BlockPlace a) ≡ before (BlockPlace a))
      → (bodies : List (List ℕ)) → ShowsBodies before (entries f xs) bodies → ShowsBodies after (entries f xs) bodies
  bodies_stay [] here [] shows = tt
  bodies_stay [] here (body ∷ bodies) shows = absurd shows
  bodies_stay (a ∷ xs) here bodies shows = entry_stays a (entries f xs) (here a) (bodies_stay xs here) (f a) refl bodies shows

shows_more : (image : Units) (references : List (ℕ × ℕ)) (bodies : List (List ℕ)) (x : ℕ × ℕ) (body : List ℕ)
    → ShowsBodies image references bodies → ShowsBody image x body → ShowsBodies image (references ++ x ∷ []) (bodies ++ body ∷ [])
shows_more image [] [] x body all one = (one, tt)
shows_more image [] (b ∷ bodies) x body all one = absurd all
shows_more image (y ∷ references) [] x body all one = absurd all
shows_more image (y ∷ references) (b ∷ bodies) x body all one = (all.0, shows_more image references bodies x body all.1 one)

shown_on : (es : List Event) (o : Told) → (told_after es o).shown ≡ image_after es o.shown
shown_on [] o = refl
shown_on (e ∷ es) o = shown_on es (did e o)

none_some : (c : ℕ) (o : Option ℕ) → o ≡ None → o ≡ Some c → ⊥
none_some c o none some = cc

module _ (file : DataFile) where
  abbrev image : Told → Units
  image o = unit_at file.layout file.cluster o.shown

  abbrev m : Work → Memory
  m w = memory_of (shape file) (spelling file) w

  abbrev all_addresses : List ℕ
  all_addresses = addresses (shape file).layout

  abbrev live_entries : Work → List (ℕ × ℕ)
  live_entries w = entries w.live all_addresses

  -- the replica stands for a state, over what the disk shows
  record Seen (s : Replica) (w : Work) (o : Told) : Type 0 where
    same : s.file ≡ file
    stands : Keeps Firm s w None
    whole : IsImage o.shown

  -- what a call leaves of it
  record Moves (a : Act) (u : Replica) (w : Work) (o : Told) (mid : Option Told) (x : Answer) : Type 0 where
    told : Told
    is : mid ≡ Some told
    answer : x ≡ (next file w a.given a.command).1
    seen : Seen u (next file w a.given a.command).0 told
    blocks : (y : ℕ)
        → image told (BlockPlace y) ≡ or_else (puts_of (m w) (supplied_sums a.given) a.command (BlockPlace y)) (image o (BlockPlace y))

  moves : (a : Act) (s u : Replica) (w : Work) (o : Told) (mid : Option Told) (x : Answer)
      → Seen s w o → Calls a s u (Some o) mid (Some x) → Moves a u w o mid x
  moves a s u w o mid x is c = let es = c.call.events in let leaves = c.call.leaves o.shown is.whole in
      let behind = rw is.same at (c.call.answers Firm w is.stands) in let own : memory s ≡ m w = rw (← is.same) is.stands.1 in record {
        told = told_after es o;
        is = c.call.told ∙ added_is_told es o;
        answer = behind.0;
        seen = record { same = c.call.file ∙ is.same; stands = behind.1; whole = subst IsImage (sym (shown_on es o)) leaves.whole };
        blocks = λ y. ap (λ i. unit_at file.layout file.cluster i (BlockPlace y)) (shown_on es o) ∙ rw is.same at
            (leaves.units.block y ∙ ap (λ (k : Memory). or_else (puts_of k (supplied_sums a.given) a.command (BlockPlace y))
            (unit_at s.file.layout s.file.cluster o.shown (BlockPlace y))) own);
      }

  module _ (t : Replica) (new : Option Told) where
    -- what is left to be made, from a state of which this is so
    record Left (P : Work → Told → Type 0) (rest : List Command) : Type 0 where
      replica : Replica
      work : Work
      told : Told
      seen : Seen replica work told
      so : P work told
      made : MakeAll rest replica t (Some told) new

    -- the next one was made
    record Next (c : Command) (cs : List Command) (w : Work) (o : Told) : Type 0 where
      first : Act
      is : first.command ≡ c
      replica : Replica
      told : Told
      seen : Seen replica (next file w first.given c).0 told
      accepted : IsAccepted (next file w first.given c).1
      blocks : (y : ℕ)
          → image told (BlockPlace y) ≡ or_else (puts_of (m w) (supplied_sums first.given) c (BlockPlace y)) (image o (BlockPlace y))
      made : MakeAll cs replica t (Some told) new

    next_made : (c : Command) (cs : List Command) (s : Replica) (w : Work) (o : Told)
        → Seen s w o → MakeAll (c ∷ cs) s t (Some o) new → Next c cs w o
    next_made c cs s w o is made = let f = first_of c cs s t (Some o) new made.exchanges made.calls made.are made.accepted in
        let go = moves f.exchange.act s f.replica w o f.mid f.exchange.answer is f.calls in record {
          first = f.exchange.act;
          is = f.is;
          replica = f.replica;
          told = go.told;
          seen = rw f.is at go.seen;
          accepted = subst IsAccepted (go.answer ∙ ap (λ (k : Command). (next file w f.exchange.act.given k).1) f.is) f.accepted;
          blocks = rw f.is at go.blocks;
          made = rw go.is at f.rest;
        }

    -- ---- releases

    releases_seen : (es : List (ℕ × ℕ)) (rest : List Command) (s : Replica) (w : Work) (o : Told)
        → Seen s w o → OnlyLive es w → MakeAll (map (λ x. Release x.0) es ++ rest) s t (Some o) new → Left (λ v p. NoLive v) rest
    releases_seen [] rest s w o is only made = record { replica = s; work = w; told = o; seen = is; so = none_live w only; made = made }
    releases_seen (x ∷ es) rest s w o is only made = let n = next_made (Release x.0) (map (λ y. Release y.0) es ++ rest) s w o is made in
        let state = released file w n.first.given x.0 n.accepted in releases_seen es rest
        n.replica (next file w n.first.given (Release x.0)).0 n.told n.seen (subst (OnlyLive es) (sym state) (one_less x es w only)) n.made

    -- ---- writes

    put_there : (address : ℕ) (b : Block) → put_one (BlockPlace address) (BlockUnit b) (BlockPlace address) ≡ Some (BlockUnit b)
    put_there address b = ap (λ (e : Bool). if e then Some (BlockUnit b) else None) (eq-eqb address address refl)

    put_apart : (address y : ℕ) (b : Block) → (address ≡ y → ⊥) → put_one (BlockPlace address) (BlockUnit b) (BlockPlace y) ≡ None
    put_apart address y b apart = ap (λ (e : Bool). if e then Some (BlockUnit b) else None) (ne_eqb address y apart)

    writes_seen : (done todo : List (List ℕ)) (rest : List Command) (s : Replica) (w : Work) (o : Told)
        → Seen s w o → ShowsBodies (image o) (live_entries w) done → LowHeld w → MakeAll (map (WriteBlock 1) todo ++ rest) s t (Some o) new
        → Left (λ v p. ShowsBodies (image p) (live_entries v) (done ++ todo)) rest
    writes_seen done [] rest s w o is shows low made =
        record { replica = s; work = w; told = o; seen = is; so = rw (sym (append-nil done)) at shows; made = made }
    writes_seen done (body ∷ todo) rest s w o is shows low made =
        let n = next_made (WriteBlock 1 body) (map (WriteBlock 1) todo ++ rest) s w o is made in let sum = supplied_sum n.first.given in
        let address = next_address (m w) in let b = block_of (m w).content.boot sum 1 body in
        let did = wrote file w n.first.given body n.accepted in let least = block_may_law (shape file) (spelling file) w 1 body did.0 in
        let puts : (y : ℕ) → puts_of (m w) (supplied_sums n.first.given) (WriteBlock 1 body) (BlockPlace y) ≡ put_one (BlockPlace address) (BlockUnit b) (BlockPlace y) = λ y. ap (λ (e : Option BlockError). unless e (put_one (BlockPlace address) (BlockUnit b)) (BlockPlace y)) did.0 in
        let there : image n.told (BlockPlace address) ≡ Some (BlockUnit b) =
        n.blocks address ∙ ap (λ (u : Option AnyUnit). or_else u (image o (BlockPlace address))) (puts address ∙ put_there address b) in
        let apart : (y d : ℕ) → w.live y ≡ Some d → image n.told (BlockPlace y) ≡ image o (BlockPlace y) = λ y d live.
        let below = lower w address y d low least.inside.0 least.free live in n.blocks y ∙ ap (λ (u : Option AnyUnit).
        or_else u (image o (BlockPlace y))) (puts y ∙ put_apart address y b (λ same. omega (arith, same, below))) in
        let old = bodies_stay w.live (image o) (image n.told) all_addresses apart done shows in
        let all : ShowsBodies (image n.told) (live_entries (with_live w address (Some sum))) (done ++ body ∷ []) =
        rw (sym (entries_last w.live address sum 1 (shape file).layout.blocks least.inside.0 (omega (arith, least.inside.1)) (λ y d live.
        lower w address y d low least.inside.0 least.free live))) at (shows_more (image n.told) (live_entries w)
        done (address, sum) body old (record { block = b; there = there; sum = refl; own = omega arith; body_is = refl })) in let ends =
        writes_seen
        (done ++ body ∷ []) todo rest n.replica (next file w n.first.given (WriteBlock 1 body)).0 n.told n.seen (rw (sym did.1) at all)
        (subst LowHeld (sym did.1) (low_more (shape file) w address sum low least)) n.made in record {
          replica = ends.replica;
          work = ends.work;
          told = ends.told;
          seen = ends.seen;
          so = rw (append_assoc done (body ∷ []) todo) at ends.so;
          made = ends.made;
        }

    -- ---- the begin and its steps

    -- a running checkpoint captured the bodies; where none runs, the durable one has them
    abbrev Has : (bodies : List (List ℕ)) → Work → Told → Option Running → Type 0
    Has bodies v p None = ShowsBodies (image p) (references_of file (kept v)) bodies
    Has bodies v p (Some r) = ShowsBodies (image p) (entries r.parts.references all_addresses) bodies

    begin_seen : (bodies : List (List ℕ)) (rest : List Command) (s : Replica) (w : Work) (o : Told) → Seen s w o → ShowsBodies
        (image o) (live_entries w) bodies → MakeAll (Begin [] ∷ rest) s t (Some o) new → Left (λ v p. Has bodies v p v.running) rest
    begin_seen bodies rest s w o is shows made = let n = next_made (Begin []) rest s w o is made in
        let state = began file w n.first.given [] n.accepted in
        let same : entries (λ y. sum_at y (live_entries w)) all_addresses ≡ live_entries w =
        entries_same (λ y. sum_at y (live_entries w)) w.live 1 (shape file).layout.blocks (λ y from to.
        entry_at w.live 1 (shape file).layout.blocks y from to) in
        let still = bodies_stay w.live (image o) (image n.told) all_addresses (λ y d live. n.blocks y) bodies shows in
        let has : Has bodies (with_running w (Some (begun (shape file) (spelling file) w [])))
        n.told (Some (begun (shape file) (spelling file) w [])) = rw (sym same) at still in
        record { replica = n.replica; work = (next file w n.first.given (Begin [])).0; told = n.told; seen = n.seen; so = rw state has; made = n.made }

    -- a step of it
    trailer_case : (bodies : List (List ℕ)) (w : Work) (o later : Told) (sum : ℕ) (r : Running) → AtEachOf (IsSpare (shape file) r) r.left
        → ShowsBodies (image o) (entries r.parts.references all_addresses) bodies → (left : List ℕ) → r.left ≡ left
        → ((y : ℕ) → image later (BlockPlace y)
        ≡ or_else (trailer_puts (m w) (course (spelling file) r) sum left (BlockPlace y)) (image o (BlockPlace y)))
        → Has bodies (after_running (shape file) (spelling file) w sum r left).0
        later (after_running (shape file) (spelling file) w sum r left).0.running
    trailer_case bodies w o later sum r spare shows [] is blocks =
        bodies_stay r.parts.references (image o) (image later) all_addresses (λ y d known. blocks y) bodies shows
    trailer_case bodies w o later sum r spare shows (a ∷ more) is blocks =
        let here = (subst (AtEachOf (IsSpare (shape file) r)) is spare).0 in
        bodies_stay r.parts.references (image o) (image later) all_addresses (λ y d known.
        blocks y ∙ ap (λ (u : Option AnyUnit). or_else u (image o (BlockPlace y)))
        (put_apart a y _ (λ same. none_some d (r.parts.references y) (rw same at here.unreferenced) known))) bodies shows

    step_case : (bodies : List (List ℕ)) (w : Work) (o later : Told) (sum : ℕ) → IsWork (shape file) (spelling file) w → (q : Option Running) → w.running ≡ q → Has bodies w o q → IsAccepted (ToAdvance (after_step_of (shape file) (spelling file) w sum q).1)
        → ((y : ℕ)
        → image later (BlockPlace y) ≡ or_else (step_puts (m w) (course_of (spelling file) q) sum (BlockPlace y)) (image o (BlockPlace y)))
        → Has bodies (after_step_of (shape file) (spelling file) w sum q).0 later (after_step_of (shape file) (spelling file) w sum q).0.running
    step_case bodies w o later sum sense None is has accepted blocks = absurd accepted
    step_case bodies w o later sum sense (Some r) is has accepted blocks =
        trailer_case bodies w o later sum r (sense.running r is).left.0 has r.left refl blocks

    steps_seen : (bodies : List (List ℕ)) (steps : ℕ) (s : Replica) (w : Work) (o : Told) → Seen s w o
        → Has bodies w o w.running → MakeAll (replicate steps Advance) s t (Some o) new → Left (λ v p. Has bodies v p v.running) []
    steps_seen bodies zero s w o is has made = record { replica = s; work = w; told = o; seen = is; so = has; made = made }
    steps_seen bodies (suc steps) s w o is has made = let n = next_made Advance (replicate steps Advance) s w o is made in
        let sense = rw is.same at is.stands.0 in let sum = supplied_sum n.first.given in
        steps_seen bodies steps n.replica (next file w n.first.given Advance).0
        n.told n.seen (step_case bodies w o n.told sum sense w.running refl has n.accepted n.blocks) n.made

-- ---- the law

one_told : (p n : Told) → Some n ≡ Some p → p ≡ n
one_told p n is = cc

pub rows_in_order : RowsInOrder
rows_in_order layout s t o n rows steps w ready whole made idle stands = let file = s.file in
    let bodies = bodies_of (rows_in_block layout) (maps.entries rows) in
    let is : Seen file s ready.work o = record { same = refl; stands = ready.stands; whole = whole } in let own = ready.stands.1 in
    let only : OnlyLive (memory s).blocks.live ready.work = λ y d live.
    let inside = ready.stands.0.grid y (ap (λ (p : Option ℕ). is_known p || (is_captured y
    ready.work.running || (is_known (ready.work.view.checkpoint.parts.references y) || is_of y ready.work.view.checkpoint.chain))) live) in
    (d, ap (λ (z : Memory). sum_at y z.blocks.live) own ∙ entry_at ready.work.live 1 file.layout.blocks y inside.0 (omega (arith, inside.1)) ∙ live) in
    let one = releases_seen
    file t (Some n) (memory s).blocks.live (writes layout rows ++ (Begin [] ∷ replicate steps Advance)) s ready.work o is only made in
    let two =
    writes_seen file t (Some n) [] bodies (Begin [] ∷ replicate steps Advance) one.replica one.work one.told one.seen
    (rw ((none_from one.work.live 1 (shape file).layout.blocks (λ y from. no_some (one.work.live y) (λ d is. one.so y d is)))) tt)
    (λ y d live. absurd (one.so y d live)) one.made in
    let three = begin_seen file t (Some n) bodies (replicate steps Advance) two.replica two.work two.told two.seen two.so two.made in
    let four = steps_seen file t (Some n) bodies steps three.replica three.work three.told three.seen three.so three.made in
    let last = none_of four.replica t (Some four.told) (Some n) four.made.exchanges four.made.calls four.made.are in
    let there : t ≡ four.replica = last.0 in let told : four.told ≡ n = one_told four.told n last.1 in
    let same : t.file ≡ file = ap (λ (r : Replica). r.file) there ∙ four.seen.same in
    let its : memory t ≡ memory_of (shape file) (spelling file) four.work = ap (λ (r : Replica). memory r) there
    ∙ subst (λ (f : DataFile). memory four.replica ≡ memory_of (shape f) (spelling f) four.work) four.seen.same four.seen.stands.1 in
    let mine : memory t ≡ memory_of (shape file) (spelling file) w = rw (← same) stands.1 in
    let none : four.work.running ≡ None = no_course (spelling file) four.work.running (sym (ap (λ (z : Memory). z.running) its) ∙ idle) in
    let has : ShowsBodies (image file four.told) (references_of file (kept four.work)) bodies = rw none at four.so in
    let alike : references_of file (kept four.work) ≡ references_of file (kept w) =
    sym (ap (λ (z : Memory). z.blocks.durable) its) ∙ ap (λ (z : Memory). z.blocks.durable) mine in
    rw (sym same) at (rw told at (rw alike at has))
