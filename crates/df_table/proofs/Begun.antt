-- What an open of a file leaves, as far as the opening of its table looks at it, and what the opening leaves.
use Rattle.std.{proofs.{Common.{◌≡◌, ℕ, ◌+◌, ◌-◌, ◌*◌, ◌<◌, ◌≤◌, ◌==◌, not, Bool, true, false, List, [], ◌∷◌, length, Option, None, refl, sym, ◌∙◌, ap, subst, arith, append-nil, eq-eqb, eqb-true, ne_eqb, le-ltb, Result, Ok, Err}, lemmas.List.{length-map}, lemmas.Option.{slice_get_within}, lemmas.Bool.{eqb-false}}, specs.{Prelude.{OnOk}, List.{range_with_len}}}
use Rattle.{df_disk.specs.Told.{Told}, df_format.specs.declared.header.Header.{Header}, df_layout.specs.declared.layout.Layout.{Layout}}
use Rattle.{df_sessions.{specs.Requests.{sessions_of}, proofs.Laws.{reply_unnoted}}, df_units.specs.Meaning.{layout_of}}
use Rattle.df_theory.specs.{Units.{Block, Content}, Trailer.{IsReference, Links, greatest_trailer}}
use Rattle.df_model.{specs.{Blocks.{Blocks, addresses, entries, pair_of}, Memory.{Memory, course_of}, Refusals.{first_refusal, reply_refusals}, Supply.{Shown}, Work.{Work}}, proofs.Laws.{pass_all}}
use Rattle.df_session.specs.{Replying.{with_stored_reply}, Below.{DataFile, State as Replica, memory, shape, spelling}, Serving.{Firm, Keeps}}
use Rattle.df_rows.specs.{Limits.{blocks_of_table}, Tables.{Table}}
use Rattle.df_table.{specs.{Opening.{AreTakenBlocks, NoneIsOther}, Policy.{opening, the_client}, Ready.{HasCaughtUp, IsBegun, IsReadyReplica, places}, declared.ending.Ending.{Ending}, Calls.{Comes}}, proofs.{Fine.{AreOwn}, Finished.{idle_runs, no_running}, Needed.{few_linked}, Stored.{makes_keep}}}

-- the live blocks, as a map's entries
pub begun_entries : (layout : Layout) (w : Work) (s : Replica)
    → IsBegun layout w s → s.blocks.live ≡ entries w.live (range_with_len 1 layout.blocks)
begun_entries layout w s begun =
    ap (λ (m : Memory). m.blocks.live) begun.stands.1 ∙ ap (λ (l : Layout). entries w.live (range_with_len 1 l.blocks)) begun.layout_is

-- the checkpoint's op is up to the head, and so are the replies
pub begun_order : (layout : Layout) (w : Work) (s : Replica) → IsBegun layout w s → s.fields.op ≤ s.head
begun_order layout w s begun = let op = ap (λ (m : Memory). m.content.op) begun.stands.1 in
    let last = ap (λ (m : Memory). m.head) begun.stands.1 in omega (arith, op, last)

pub begun_replies : (layout : Layout) (w : Work) (s : Replica) → IsBegun layout w s → s.replies ≤ s.head
begun_replies layout w s begun =
    omega (arith, ap (λ (m : Memory). m.replies) begun.stands.1, ap (λ (m : Memory). m.head) begun.stands.1, begun.stands.0.view.pipeline.0)

-- ---- replies

-- the reply to the op that waits the longest isn't refused
pub may_catch : (t : Replica) (b : ℕ) → t.replies ≡ b → b < t.head → first_refusal (reply_refusals (memory t) (b + 1) []) ≡ None
may_catch t b replies less = pass_all (reply_refusals (memory t) (b + 1) []) (
  ne_eqb t.replies t.head (λ same. omega (arith, same, replies, less)),
  (ap not (eq-eqb (b + 1) (t.replies + 1) (omega (arith, replies))), (le-ltb _ _ (omega arith), tt)),
)

-- this many ops have their replies
pub record HasReplied (b : ℕ) (s t : Replica) : Type 0 where
  pub head : t.head ≡ s.head
  pub replies : t.replies ≡ b
  pub staged : t.staged ≡ s.staged
  pub file : t.file ≡ s.file
  pub blocks : t.blocks ≡ s.blocks
  pub running : t.running ≡ s.running
  pub sessions : sessions_of t.table.sessions ≡ sessions_of s.table.sessions

pub replied_none : (s : Replica) → HasReplied s.replies s s
replied_none s = record { head = refl; replies = refl; staged = refl; file = refl; blocks = refl; running = refl; sessions = refl }

pub replied_more : (b : ℕ) (s t u : Replica) (h : Header) → HasReplied b s t → u ≡ with_stored_reply t h → HasReplied (b + 1) s u
replied_more b s t u h is behind = subst (λ (r : Replica). HasReplied (b + 1) s r) (sym behind) (record {
  head = is.head;
  replies = ap (λ (n : ℕ). n + 1) is.replies;
  staged = is.staged;
  file = is.file;
  blocks = is.blocks;
  running = is.running;
  sessions = reply_unnoted h.slot h.checksum t.table.sessions ∙ is.sessions;
})

pub caught_up : (b : ℕ) (s t : Replica) → HasReplied b s t → (s.replies ≤ s.head → b ≡ s.head) → HasCaughtUp s t
caught_up b s t is all = record { head = is.head; replies = λ order. is.replies ∙ all order; staged = is.staged; file = is.file; blocks = is.blocks; running = is.running; sessions = is.sessions }

-- ---- ready

module _ (layout : Layout) (w : Work) (s : Replica) (begun : IsBegun layout w s) where
  abbrev own : Layout
  own = s.file.layout

  -- the trailer has a size that the superblock may name
  short : (c : Content) (chain : List (ℕ × Block)) → IsReference (layout_of own) c → Links
      (own.block_size - 256) c chain c.trailer c.trailer_checksum → 0 < length chain → c.trailer_size ≤ greatest_trailer (layout_of own)
  short c [] reference links some = absurd (omega (arith, some))
  short c (b ∷ bs) reference links some = (reference.size links.0).1

  -- so it has no more blocks than half of what three tables leave
  few_chain : 2 * length s.blocks.chain ≤ blocks_of_table own + 4
  few_chain = let v = w.view in let trailer = begun.stands.0.view.checkpoint.trailer in
      let same : length s.blocks.chain ≡ length v.checkpoint.chain =
      ap (λ (m : Memory). length m.blocks.chain) begun.stands.1 ∙ length-map v.checkpoint.chain pair_of in
      subst (λ (n : ℕ). 2 * n ≤ blocks_of_table own + 4) (sym same) (few_linked (own.block_size - 256) v.checkpoint.content.trailer_size
      (length v.checkpoint.chain) (blocks_of_table own) (omega (arith, own.block_size_within)) trailer.count.needed (λ some. omega
      (arith, short v.checkpoint.content v.checkpoint.chain trailer.reference trailer.links some, own.blocks_within, own.clients_within)))

-- ---- sessions

pub own_all : (m : Memory) → NoneIsOther m (length m.sessions) → AreOwn m.sessions
own_all m none place x is = go (x.client == the_client) refl
  where
    go : (b : Bool) → (x.client == the_client) ≡ b → x.client ≡ the_client
    go true same = eqb-true x.client the_client same
    go false apart = absurd (none
        place (slice_get_within m.sessions place x is) (record { session = x; at = is; other = eqb-false x.client the_client apart }))

-- ---- the replica is ready

module _ (layout : Layout) (w : Work) (s : Replica)
    (begun : IsBegun layout w s) (shown : Shown) (table : Table) (taken : AreTakenBlocks layout shown (memory s) [] table) where
  none_runs : s.running ≡ None
  none_runs = no_running s s.running (ap (λ (m : Memory). m.running) begun.stands.1 ∙ ap (course_of (spelling s.file)) begun.idle)

  few_live : length s.blocks.live ≤ blocks_of_table layout
  few_live = omega (arith, taken.few, ap (λ (l : List (ℕ × ℕ)). length l) (taken.of ∙ append-nil taken.before))

  same_live : s.blocks.live ≡ s.blocks.durable
  same_live =
      ap (λ (m : Memory). m.blocks.live) begun.stands.1 ∙ ap (λ (f : ℕ → Option ℕ). entries f (addresses (shape s.file).layout)) begun.live
      ∙ sym (ap (λ (m : Memory). m.blocks.durable) begun.stands.1)

  ready_there : (t : Replica) → HasCaughtUp s t → t.live ≡ true → (u : Work) → Keeps Firm t u None → IsReadyReplica layout t
  ready_there t caught live u keeps = record {
    live = live;
    work = u;
    stands = keeps;
    layout_is = ap (λ (f : DataFile). f.layout) caught.file ∙ begun.layout_is;
    own = record {
      idle = idle_runs t (caught.running ∙ none_runs);
      answered = caught.replies (begun_replies layout w s begun) ∙ sym caught.head;
      unstaged = caught.staged ∙ ap (λ (m : Memory). m.staged) begun.stands.1 ∙ begun.unstaged;
      alone = subst AreOwn (sym caught.sessions) (own_all (memory s) taken.own);
    };
    space = record {
      live = ap (λ (b : Blocks). places b.live) caught.blocks ∙ ap places same_live ∙ sym (ap (λ (b : Blocks). places b.durable) caught.blocks);
      few = omega (arith, few_live, ap (λ (l : List (ℕ × ℕ)). length l) same_live, ap (λ (b : Blocks). length b.durable) caught.blocks);
      chain = omega (arith, rw begun.layout_is at (few_chain layout w s begun), ap (λ (b : Blocks). length b.chain) caught.blocks);
    };
  }

  pub ready_found : {T : Type 0} (t : Replica) (old new : Option Told) (r : Result T Ending)
      → Comes (opening (memory s)) s t old new r → OnOk r (HasCaughtUp s t) → OnOk r (t.live ≡ true) → OnOk r (IsReadyReplica layout t)
  ready_found t old new (Ok x) made caught live = let keeps = makes_keep (opening (memory s)) s t old new made w begun.stands in
      ready_there t caught live keeps.0 keeps.1
  ready_found t old new (Err ending) made caught live = tt
