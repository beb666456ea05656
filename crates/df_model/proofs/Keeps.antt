-- Each command keeps the state's sense.
use Rattle.std.{proofs.{Common.{◌≡◌, ◌⊎◌, inl, inr, ℕ, ◌+◌, ◌-◌, ◌<◌, ◌≤◌, ◌==◌, ◌||◌, Bool, true, false, if◌then◌else◌, List, [], ◌∷◌, ◌++◌, length, Option, Some, None, refl, sym, ◌∙◌, ap, subst, zero, suc, nat_lt, arith, length-drop, eqb-true}, lemmas.Bool.Decides.{nat_tests}, lemmas.List.FromFn.{length-map-range_with_len}, lemmas.Bool.{or_right, or_cases}}, specs.List.{slice_get}}
use Rattle.df_layout.specs.declared.damage.Finding.{Finding}
use Rattle.df_theory.{specs.{Units.{Block, BlockUnit, Content, Message, Session, Parts}, Sessions.{noted}, Tails.{Chain, In}, Trailer.{InChain, Links, Says, text_of}, Shape.{Shape}, View.{View, head, sessions}, Holds.{Sound}, Next.{Append, Finish, Next, Reply, Same}}, proofs.Laws.{chain_ops}}
use Rattle.df_model.{specs.{Blocks.{addresses, entries, sum_at}, Work.{Running, Tour, Work, first_tour, prepare_checksum, is_captured, is_in, is_known, is_of, opened, waiting_checksum}, Codec.{AreBytes, AreLawful, IsCodec, IsLawful}, Refusals.{begin_refusals, first_refusal}, After.{newest, with_running, next_trailer, begun, checkpoint_of, with_trailer_block, with_verdict}, Change.{Appends, Begins, Change, Checks, Ends, LetsGo, Lives, One, Replies, Staged, Stages, Stays, TourEnds, Writes}, Sense.{AtEachOf, IsCapture, IsClearAddress, IsWork}, declared.answers.Verdict.{Verdict}, declared.answers.Verdict.TheVariants.{Sound as IsFine, Failing}, Laws.{HasFields, NextLaw, OpenedLaw, SenseLaw}, Memory.{free_of, memory_of}, Making.{needed_of, next_address, place_of_reply, reply_of}, Commands.{Command, Given, IsInput, after, supplied_sum, supplied_sums, supplied_verdict}}, proofs.{Entries.{entry_known}, Sessions.{chain_lawful}, Grid.{IsFree, are_free, each_take, each_weaker, in_each, nowhere}, Knows.{begin_knows, one_fewer, one_more, opened_one, trailer_knows, trailer_new}, Appends.{append_keeps, may_append}, Groups.{nothing_staged}, Staging.{aside_keeps, stage_keeps}, Flushing.{flush_keeps, may_flush}, Replies.{may_reply, reply_keeps}, Blocks.{first_small, live_keeps, next_free, release_keeps}, Steps.{begin_capture, step_capture}, Finishes.{finish_keeps, is_finish}, Recording.{get_range}, OneThing.{one_thing_law}}}

-- ---- a begin

begin_case : (x y i c t : Bool) → (y ≡ true → x ≡ true) → (x || ((y || (false || i)) || t)) ≡ true → (i ≡ true) ⊎ ((x || (c || t)) ≡ true)
begin_case true y i c t known is = inr refl
begin_case false true i c t known is = absurd (let none = known refl in cc (none))
begin_case false false true c t known is = inl refl
begin_case false false false c t known is = inr (or_right c t is)

pub begin_keeps : (sh : Shape) (spell : Parts → List ℕ) (w : Work) (root : List ℕ) → AreBytes root
    → IsWork sh spell w → first_refusal (begin_refusals (memory_of sh spell w) (needed_of spell (memory_of sh spell w) root) root) ≡ None
    → IsWork sh spell (with_running w (Some (begun sh spell w root)))
begin_keeps sh spell w root bytes work none =
    let frees = each_take (IsFree sh w) (needed_of spell (memory_of sh spell w) root) (free_of (memory_of sh spell w)) (are_free sh spell w) in
    record {
      codec = work.codec;
      version = work.version;
      view = work.view;
      sessions = work.sessions;
      grid = λ a held. elim (begin_case (is_known (w.live a)) (is_known (sum_at a (entries w.live (addresses sh.layout))))
          (is_in a (begun sh spell w root).left) (is_captured a w.running) (is_known
          (w.view.checkpoint.parts.references a) || is_of a w.view.checkpoint.chain) (entry_known w.live (addresses sh.layout) a) held) [
            | inl there ↦ (in_each (IsFree sh w) (begun sh spell w root).left a frees there).inside
            | inr old ↦ work.grid a old
          ];
      waiting = work.waiting;
      staged = work.staged;
      running = λ r at.
          subst (IsCapture sh spell w.view) (let e : begun sh spell w root ≡ r = cc in e) (begin_capture sh spell w root bytes work none);
      one = one_fewer w (with_running w (Some (begun sh spell w root))) (begin_knows sh spell w root) work.one;
      sums = work.sums;
      few = work.few;
      clear = λ r at. rw (← (let e : begun sh spell w root ≡ r = cc in e))
          (each_weaker (IsFree sh w) (IsClearAddress w.live w.view.checkpoint) (λ a free. let none_there = nowhere w a free.unheld in
          record { dead = none_there.live; unreferenced = none_there.durable; no_trailer = none_there.chain })
          (begun sh spell w root).left frees);
    }

-- ---- a step

step_case : (x y e o m t : Bool) → (x || ((y || ((e || o) || m)) || t)) ≡ true → (x || ((y || (o || (e || m))) || t)) ≡ true
step_case true y e o m t is = refl
step_case false true e o m t is = refl
step_case false false true true m t is = refl
step_case false false true false m t is = refl
step_case false false false true m t is = refl
step_case false false false false m t is = is

pub trailer_keeps : (sh : Shape) (spell : Parts → List ℕ) (w : Work) (sum : ℕ) (r : Running) (a : ℕ) (more : List ℕ) → IsWork sh spell w
    → w.running ≡ Some r → r.left ≡ a ∷ more → IsWork sh spell (with_trailer_block w r a (next_trailer sh spell w r sum) more)
trailer_keeps sh spell w sum r a more work at left =
    let u : Running = record r { written = (a, next_trailer sh spell w r sum) ∷ r.written; left = more } in record {
      codec = work.codec;
      version = work.version;
      view = work.view;
      sessions = work.sessions;
      grid = λ k held. work.grid k (
          ap (λ (o : Option Running). is_known
          (w.live k) || (is_captured k o || (is_known (w.view.checkpoint.parts.references k) || is_of k w.view.checkpoint.chain))) at
          ∙ ap (λ (l : List ℕ). is_known (w.live k) || ((is_known (r.parts.references k) || (is_of k r.written || is_in k l)) || (is_known
          (w.view.checkpoint.parts.references k) || is_of k w.view.checkpoint.chain))) left
          ∙ step_case (is_known (w.live k)) (is_known (r.parts.references k)) (k == a)
          (is_of k r.written) (is_in k more) (is_known (w.view.checkpoint.parts.references k) || is_of k w.view.checkpoint.chain) held
          );
      waiting = work.waiting;
      staged = work.staged;
      running = λ q is.
          subst (IsCapture sh spell w.view) (let e : u ≡ q = cc in e) (step_capture sh spell w r sum a more (work.running r at) left);
      one = one_more w (with_trailer_block w r a (next_trailer sh spell w r sum) more) a sum (trailer_knows w r a
          (next_trailer sh spell w r sum) more at) (trailer_new sh spell w r a more at left (work.running r at) (work.clear r at)) work.one;
      sums = work.sums;
      few = work.few;
      clear = λ q is. rw (← (let e : u ≡ q = cc in e)) (let all : AtEachOf (IsClearAddress w.live w.view.checkpoint) (a
          ∷ more) = subst (AtEachOf (IsClearAddress w.live w.view.checkpoint)) left (work.clear r at) in all.1);
    }

-- ---- the scrubber

pub newest_few : (fs : List Finding) → length (newest fs) ≤ 64
newest_few fs = omega (arith, length-drop (length fs - 64) fs)

-- what holds of tours and findings alone is no matter of the state's sense
pub tour_keeps : (sh : Shape) (spell : Parts → List ℕ) (w : Work) (tour : Tour) (findings : List Finding)
    → length findings ≤ 64 → IsWork sh spell w → IsWork sh spell (record w { tour = tour; findings = findings })
tour_keeps sh spell w tour findings few work = aside_keeps sh spell w w.staged tour findings work.staged few work

-- a check changes the tour and the findings alone
pub record IsTour (sh : Shape) (spell : Parts → List ℕ) (w u : Work) : Type 0 where
  pub keeps : IsWork sh spell w → IsWork sh spell u
  pub view : u.view ≡ w.view
  pub live : u.live ≡ w.live
  pub running : u.running ≡ w.running

pub check_tours : (sh : Shape) (spell : Parts → List ℕ) (w : Work) (a : ℕ) (verdict : Verdict) → IsTour sh spell w (with_verdict w a verdict)
check_tours sh spell w a IsFine = record { keeps = λ work. tour_keeps sh spell w (with_verdict w a IsFine).tour w.findings work.few work; view = refl; live = refl; running = refl }
check_tours sh spell w a (Failing kind) = record { keeps = tour_keeps sh spell w (with_verdict w a (Failing kind)).tour (with_verdict w a (Failing kind)).findings (newest_few (w.findings ++ record { address = a; «class» = kind } ∷ [])); view = refl; live = refl; running = refl }

pub end_tours : (sh : Shape) (spell : Parts → List ℕ) (w : Work) → IsTour sh spell w (record w { tour = first_tour })
end_tours sh spell w =
    record { keeps = λ work. tour_keeps sh spell w first_tour w.findings work.few work; view = refl; live = refl; running = refl }

-- ---- every command

module _ (sh : Shape) (spell : Parts → List ℕ) (w : Work) (given : Given) (work : IsWork sh spell w) where
  changed_sense : (c : Command) (u : Work) → IsInput given c → Change sh spell w given c u → IsWork sh spell u
  changed_sense c u input (Stays _ idle) = work
  changed_sense c u input (Appends _ ps (One client request body none staged)) =
      append_keeps sh spell w (supplied_sum given) client request body work none input.fields
  changed_sense c u input (Appends _ ps (Staged none)) = flush_keeps sh spell w (supplied_sums given) work none
  changed_sense c u input (Stages client request body none) = stage_keeps sh spell w client request body work none input.fields
  changed_sense c u input (Replies op body none) = reply_keeps sh spell w (supplied_sum given) op body work none
  changed_sense c u input (Lives kind body none) = live_keeps sh spell w (next_address (memory_of sh spell w))
      (supplied_sum given) (first_small (supplied_sums given) input.checksums) work (next_free sh spell w kind body none)
  changed_sense c u input (LetsGo address none) = release_keeps sh spell w address work
  changed_sense c u input (Begins root none) = begin_keeps sh spell w root input.fields work none
  changed_sense c u input (Writes r a more at left) = trailer_keeps sh spell w (supplied_sum given) r a more work at left
  changed_sense c u input (Ends r at left) = finish_keeps sh spell w r (supplied_sum given) work at left
  changed_sense c u input (Checks x more is) = (check_tours sh spell w x.0 (supplied_verdict given)).keeps work
  changed_sense c u input (TourEnds is) = (end_tours sh spell w).keeps work

  changed_view : (c : Command) (u : Work) → Change sh spell w given c u → Next w.view u.view
  changed_view c u (Stays _ idle) = Same
  changed_view c u (Appends _ ps (One client request body none staged)) =
      Append ps (may_append sh spell w (supplied_sum given) client request body work none).is
  changed_view c u (Appends _ ps (Staged none)) = Append ps (may_flush sh spell w (supplied_sums given) work none).is
  changed_view c u (Stages client request body none) = Same
  changed_view c u (Replies op body none) = Reply (place_of_reply (memory_of sh spell w))
      (reply_of (memory_of sh spell w) (supplied_sum given) body) (may_reply sh spell w (supplied_sum given) op body work none).is
  changed_view c u (Lives kind body none) = Same
  changed_view c u (LetsGo address none) = Same
  changed_view c u (Begins root none) = Same
  changed_view c u (Writes r a more at left) = Same
  changed_view c u (Ends r at left) =
      Finish (checkpoint_of sh spell w r (supplied_sum given)) (is_finish sh spell w r (supplied_sum given) work (work.running r at) left)
  changed_view c u (Checks x more is) = subst (Next w.view) (sym (check_tours sh spell w x.0 (supplied_verdict given)).view) Same
  changed_view c u (TourEnds is) = Same

pub sense_law : SenseLaw
sense_law sh spell w given c input work =
    changed_sense sh spell w given work c (after sh spell w given c).0 input (one_thing_law sh spell w given c)

pub next_law : NextLaw
next_law sh spell w given c work = changed_view sh spell w given work c (after sh spell w given c).0 (one_thing_law sh spell w given c)

-- ---- the start

-- the place of a prepare in a chain
pub chain_get : (clients op parent mark : ℕ) (ss : List Session) (ps : List Message) (p : Message) (i : ℕ)
    → Chain clients op parent mark ss ps → In p ps → p.header.op ≡ op + i → slice_get ps i ≡ Some p
chain_get clients op parent mark ss [] p i chain at is = absurd at
chain_get clients op parent mark ss (x ∷ ps) p zero chain (inl here) is = ap Some (sym here)
chain_get clients op parent mark ss (x ∷ ps) p (suc i) chain (inl here) is =
    let same : p.header.op ≡ x.header.op = ap (λ (w : Message). w.header.op) here in absurd (omega (arith, chain.0.op_is))
chain_get clients op parent mark ss (x ∷ ps) p zero chain (inr there) is =
    let above = chain_ops clients (op + 1) x.header.checksum x.header.mark (noted x.header ss) ps p chain.1 there in
    absurd (omega (arith, above.0))
chain_get clients op parent mark ss (x ∷ ps) p (suc i) chain (inr there) is =
    chain_get clients (op + 1) x.header.checksum x.header.mark (noted x.header ss) ps p i chain.1 there (omega arith)

if_below : (a b : ℕ) (x y : ℕ) → a < b → (if nat_lt a b then x else y) ≡ x
if_below a b x y less = grind (arith, nat_tests)

either_three : (a b : Bool) → (a || (false || (a || b))) ≡ true → (a || b) ≡ true
either_three true b is = refl
either_three false b is = is

pub some_known : (o : Option ℕ) → is_known o ≡ true → (c : ℕ) × (o ≡ Some c)
some_known None is = absurd (cc)
some_known (Some c) is = (c, refl)

of_case : (a : ℕ) (x : ℕ × Block) (xs : List (ℕ × Block)) (b : Bool)
    → (a == x.0) ≡ b → (b || is_of a xs) ≡ true → (is_of a xs ≡ true → (y : Block) × InChain a y xs) → (y : Block) × InChain a y (x ∷ xs)
of_case a x xs true same is more = (x.1, inl (eqb-true a x.0 same, refl))
of_case a x xs false same is more = let rest = more is in (rest.0, inr rest.1)

pub some_of : (a : ℕ) (xs : List (ℕ × Block)) → is_of a xs ≡ true → (y : Block) × InChain a y xs
some_of a [] is = absurd (cc)
some_of a (x ∷ xs) is = of_case a x xs (a == x.0) refl is (λ more. some_of a xs more)

links_above : (room : ℕ) (c : Content) (chain : List (ℕ × Block)) (address checksum a : ℕ) (b : Block)
    → Links room c chain address checksum → InChain a b chain → 0 < a
links_above room c [] address checksum a b links at = absurd at
links_above room c (x ∷ xs) address checksum a b links (inl here) = omega (arith, links.0, links.1, here.0)
links_above room c (x ∷ xs) address checksum a b links (inr there) = links_above room c xs x.1.before x.1.before_checksum a b links.7 there

-- what a trailer says is lawful
pub parts_lawful : (sh : Shape) (spell : Parts → List ℕ) → IsCodec sh spell
    → (op : ℕ) (chain : List (ℕ × Block)) (parts : Parts) → AreBytes (text_of chain) → Says sh op chain parts → IsLawful sh.layout op parts
parts_lawful sh spell codec op [] parts bytes says = subst (IsLawful sh.layout op) (sym says) (record {
  root = (omega arith, λ i. omega arith);
  sessions = record { few = omega arith; each = λ k s at. absurd (cc); apart = λ j k s t at other same. absurd (cc) };
  reached = λ k s at. absurd (cc);
  ops = λ j k s t at other same. absurd (cc);
  references = λ a c is. absurd (cc);
})
parts_lawful sh spell codec op (x ∷ xs) parts bytes says = codec.lawful op (text_of (x ∷ xs)) parts bytes says

pub sessions_lawful : (sh : Shape) (spell : Parts → List ℕ) (v : View)
    → IsCodec sh spell → Sound sh v → HasFields v → AreLawful sh.layout.clients (sessions v)
sessions_lawful sh spell v codec sound fields = let parts =
    parts_lawful sh spell codec v.checkpoint.content.op v.checkpoint.chain v.checkpoint.parts fields.bytes sound.checkpoint.trailer.says in
    chain_lawful sh.layout.clients (v.checkpoint.content.op
    + 1) v.checkpoint.content.op_checksum 0 v.checkpoint.parts.sessions v.tail parts.sessions sound.chain fields.prepares

pub opened_law : OpenedLaw
opened_law sh spell image v codec version sound fields shows = record {
  codec = codec;
  version = version;
  view = sound;
  sessions = sessions_lawful sh spell v codec sound fields;
  grid = λ a held. elim (or_cases (is_known (v.checkpoint.parts.references a))
      (is_of a v.checkpoint.chain) (either_three (is_known (v.checkpoint.parts.references a)) (is_of a v.checkpoint.chain) held)) [
        | inl known ↦ let c = some_known (v.checkpoint.parts.references a) known in (parts.references a c.0 c.1).0
        | inr chained ↦ let b = some_of a v.checkpoint.chain chained in
            (links_above (sh.layout.block_size - 256) v.checkpoint.content v.checkpoint.chain v.checkpoint.content.trailer v.checkpoint.content.trailer_checksum a b.0 sound.checkpoint.trailer.links b.1, sound.checkpoint.trailer.inside a b.0 b.1)
      ];
  waiting = record {
    count = omega (arith, sound.pipeline.0, length-map-range_with_len (waiting_checksum sh image v) (v.replies + 1) (head v - v.replies));
    each = λ i p at op. let ops = chain_ops sh.layout.clients
        (v.checkpoint.content.op + 1) v.checkpoint.content.op_checksum 0 v.checkpoint.parts.sessions v.tail p sound.chain at in
        get_range (waiting_checksum sh image v) (v.replies + 1) (head v - v.replies) i p.header.op (omega (arith, ops.1)) op
        ∙ ap Some (if_below v.checkpoint.content.op p.header.op _ _ (omega (arith, ops.0))
        ∙ ap prepare_checksum (chain_get sh.layout.clients (v.checkpoint.content.op + 1) v.checkpoint.content.op_checksum
        0 v.checkpoint.parts.sessions v.tail p (p.header.op - v.checkpoint.content.op - 1) sound.chain at (omega (arith, ops.0))));
  };
  staged = nothing_staged sh v sound (sessions_lawful sh spell v codec sound fields);
  running = λ r none. absurd (cc);
  one = opened_one sh v (opened sh image v) sound (λ a b c first second. let both : Some (BlockUnit
      b) ≡ Some (BlockUnit c) = sym (shows a b first) ∙ shows a c second in cc) refl refl refl;
  sums = λ a c is. (parts.references a c is).1;
  few = omega arith;
  clear = λ r none. absurd (cc);
}
  where
    parts : IsLawful sh.layout v.checkpoint.content.op v.checkpoint.parts
    parts = parts_lawful sh spell codec v.checkpoint.content.op v.checkpoint.chain v.checkpoint.parts fields.bytes sound.checkpoint.trailer.says
