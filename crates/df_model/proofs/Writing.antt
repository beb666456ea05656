-- Writes that lead on, whatever stands at the referenced blocks; and where they are shown, they stay so.
use Rattle.std.proofs.{Common.{◌≡◌, ℕ, ◌^◌, ◌<◌, ◌==◌, ◌%◌, Bool, true, false, if◌then◌else◌, List, [], ◌∷◌, Option, Some, None, refl, sym, ◌∙◌, ap, subst, eqb-true}, lemmas.Bool.{eqb-false}}
use Rattle.df_theory.{specs.{Units.{AnyUnit, Block, BlockPlace, BlockUnit, Message, Parts, Place, PreparePlace, PrepareUnit, ReplyPlace, ReplyUnit, Units, or_else, overlay}, Trailer.{InChain}, Shape.{Shape}, View.{View}, UnitLog.{PutsOne, UnitLog, now}, Runs.{Step, after_steps}, WriterLaws.{IsHeaderSector, flush_steps}, TidyLaws.{IsTidy, KeepsStanding, LeadsTidily}, WholeLaws.{IsStanding}}, proofs.Laws.{put_else, tidy_append_law, tidy_block_law, tidy_flush_law, tidy_idle_law, tidy_reply_law}}
use Rattle.df_model.{specs.{Work.{Work}, Codec.{IsChecksum}, Memory.{memory_of}, Making.{group_of, place_of_reply, prepare_of, reply_of}, Refusals.{append_refusals, first_refusal, flush_refusals, reply_refusals}, After.{with_group, with_live, with_reply}, Sense.{IsBacked, IsWork, ShowsOwnBlock, ShowsWritten}, Laws.{BacksOn, DoesAppend, DoesBlock, DoesFlush, DoesReply, IsKeptBy, LeadsOn}}, proofs.{Grid.{IsFree, nowhere}, Appends.{append_keeps, may_append}, NoBlocks.{blocks_stay, flush_no_blocks}, Replies.{may_reply, reply_keeps}, Flushing.{flush_keeps, may_flush}, Blocks.{live_keeps}}}

-- a command leads on, and where the blocks are shown, keeps them so
abbrev pub Both : Shape → (Parts → List ℕ) → UnitLog → Work → Work → List Step → Type 0
Both sh spell log w u steps = LeadsOn sh spell log w u steps × (IsBacked log w → BacksOn sh log w u steps)

-- ---- nothing is done

-- the state changes and the view doesn't
pub idle : (sh : Shape) (spell : Parts → List ℕ) (log : UnitLog) (w u : Work) (steps : List Step) → u.view ≡ w.view → IsKeptBy sh spell
    log w → IsWork sh spell u → ShowsWritten (now log) u → (IsBacked log w → IsBacked log u) → steps ≡ [] → Both sh spell log w u steps
idle sh spell log w u steps same keeps work written backs none = subst (λ (ss : List Step). Both sh spell log w u ss) (sym none) (
  record {
    leads = rw same (tidy_idle_law sh log w.view keeps.tidy).0;
    keeps = record { sense = work; tidy = subst (IsTidy sh log) (sym same) keeps.tidy; written = written };
  },
  λ backed. record {
    stands = rw same ((tidy_idle_law sh log w.view keeps.tidy).1 backed.standing);
    backed = backs backed;
  },
)

-- the state stays
pub stay : (sh : Shape) (spell : Parts → List ℕ) (log : UnitLog) (w : Work) (steps : List Step)
    → IsKeptBy sh spell log w → steps ≡ [] → Both sh spell log w w steps
stay sh spell log w steps keeps none = idle sh spell log w w steps refl keeps keeps.sense keeps.written (λ backed. backed) none

-- ---- what is shown stays shown

-- the image shows the same blocks
abbrev pub SameBlocks : Units → Units → Type 0
SameBlocks image later = (a : ℕ) → later (BlockPlace a) ≡ image (BlockPlace a)

pub own_same : (image later : Units) (a c : ℕ)
    → later (BlockPlace a) ≡ image (BlockPlace a) → ShowsOwnBlock image a c → ShowsOwnBlock later a c
own_same image later a c same shows = (shows.0, same ∙ shows.1, shows.2, shows.3)

same_written : (image later : Units) (w u : Work)
    → SameBlocks image later → u.running ≡ w.running → ShowsWritten image w → ShowsWritten later u
same_written image later w u same running written r at a b is = same a ∙ written r (sym running ∙ at) a b is

backed_same : (log later : UnitLog) (w u : Work)
    → IsStanding later u.view → SameBlocks (now log) (now later) → u.live ≡ w.live → u.running ≡ w.running
    → IsBacked log w → IsBacked later u
backed_same log later w u standing same live running backed = record {
  standing = standing;
  live = λ a c is. own_same (now log) (now later) a c (same a) (backed.live a c (ap (λ (l : ℕ → Option ℕ). l a) (sym live) ∙ is));
  captured = λ r at a c is. own_same (now log) (now later) a c (same a) (backed.captured r (sym running ∙ at) a c is);
}

-- a write that puts no block
pub same_headers : (image put : Units) (p : Message) (sh : Shape) (shown : Units)
    → IsHeaderSector sh shown p put → SameBlocks image (overlay put image)
same_headers image put p sh shown sector a = go (put (BlockPlace a)) refl
  where
    go : (o : Option AnyUnit) → put (BlockPlace a) ≡ o → or_else o (image (BlockPlace a)) ≡ image (BlockPlace a)
    go None none = refl
    go (Some y) some = absurd (let at = (sector.each (BlockPlace a) y some).2 in cc)

-- the block at its address is replaced, and no other
pub block_else : (image put : Units) (a : ℕ) (b : Block)
    → PutsOne put (BlockPlace a) (BlockUnit b) → (k : ℕ) → (k ≡ a → ⊥) → overlay put image (BlockPlace k) ≡ image (BlockPlace k)
block_else image put a b one k apart =
    put_else put image (BlockPlace a) (BlockPlace k) (BlockUnit b) one (λ same. apart (let e : k ≡ a = cc (same) in e))

pub put_at : (image put : Units) (place : Place) (x : AnyUnit) → PutsOne put place x → overlay put image place ≡ Some x
put_at image put place x one = ap (λ (o : Option AnyUnit). or_else o (image place)) one.at

-- ---- the commands that write

pub append_on : (sh : Shape) (spell : Parts → List ℕ) (log : UnitLog) (w : Work) (sum client request : ℕ) (body : List ℕ) (steps : List Step) → client < 2 ^ 128 → IsKeptBy sh spell log w → first_refusal (append_refusals (memory_of sh spell w) client request body) ≡ None
    → DoesAppend sh (now log) w.view (prepare_of (memory_of sh spell w) sum client request body) steps
    → Both sh spell log w (with_group w (prepare_of (memory_of sh spell w) sum client request body ∷ [])) steps
append_on sh spell log w sum client request body steps fits keeps none does =
    let p = prepare_of (memory_of sh spell w) sum client request body in let u = with_group w (p ∷ []) in
    let on = tidy_append_law sh log w.view p
    does.prepare does.headers keeps.tidy (may_append sh spell w sum client request body keeps.sense none) does.one does.sector does.there in
    let later = overlay does.headers (overlay does.prepare (now log)) in
    let same : SameBlocks (now log) later = λ a. same_headers (overlay does.prepare (now log)) does.headers p sh (now log) does.sector a ∙ put_else does.prepare (now log) (PreparePlace (p.header.op % sh.layout.slots)) (BlockPlace a) (PrepareUnit p) does.one (λ same. cc (same)) in
    subst (λ (ss : List Step). Both sh spell log w u ss) (sym does.are) (
      record { leads = on.0; keeps = record { sense = append_keeps sh spell w sum client request body keeps.sense none fits; tidy = on.0.tidy; written = same_written (now log) later w u same refl keeps.written } },
      λ backed. let stands = on.1 backed.standing in
          record { stands = stands; backed = backed_same log _ w u stands.standing same refl refl backed },
    )

pub flush_on : (sh : Shape) (spell : Parts → List ℕ) (log : UnitLog) (w : Work) (sums : List ℕ) (steps : List Step)
    → IsKeptBy sh spell log w → first_refusal (flush_refusals (memory_of sh spell w)) ≡ None
    → DoesFlush sh (now log) w.view (group_of (memory_of sh spell w) sums) steps
    → Both sh spell log w (with_group w (group_of (memory_of sh spell w) sums)) steps
flush_on sh spell log w sums steps keeps none does = let ps = group_of (memory_of sh spell w) sums in let u = with_group w ps in
    let own = flush_steps does.prepares does.headers in
    let on = tidy_flush_law sh log w.view ps ps does.prepares does.table does.headers keeps.tidy (may_flush
    sh spell w sums keeps.sense none) does.booted (record { there = λ p at. at; back = λ p at. at }) does.puts does.sectors does.is_table in
    let same : SameBlocks (now log) (now (after_steps own log)) =
    blocks_stay own log (flush_no_blocks sh ps does.prepares does.table does.headers does.puts does.sectors) in
    subst (λ (ss : List Step). Both sh spell log w u ss) (sym does.are) (
      record { leads = on.0; keeps = record { sense = flush_keeps sh spell w sums keeps.sense none; tidy = on.0.tidy; written = same_written (now log) (now (after_steps own log)) w u same refl keeps.written } },
      λ backed. let stands = on.1 backed.standing in
          record { stands = stands; backed = backed_same log _ w u stands.standing same refl refl backed },
    )

pub reply_on : (sh : Shape) (spell : Parts → List ℕ) (log : UnitLog) (w : Work) (sum op : ℕ) (body : List ℕ) (steps : List Step)
    → IsKeptBy sh spell log w → first_refusal (reply_refusals (memory_of sh spell w) op body) ≡ None
    → DoesReply w.view (place_of_reply (memory_of sh spell w)) (reply_of (memory_of sh spell w) sum body) steps
    → Both sh spell log w (with_reply w (place_of_reply (memory_of sh spell w)) (reply_of (memory_of sh spell w) sum body)) steps
reply_on sh spell log w sum op body steps keeps none does = let place = place_of_reply (memory_of sh spell w) in
    let r = reply_of (memory_of sh spell w) sum body in let u = with_reply w place r in
    let on = tidy_reply_law sh log w.view does.put place r keeps.tidy (may_reply sh spell w sum op body keeps.sense none) does.one in
    let later = overlay does.put (now log) in let same : SameBlocks (now log) later =
    λ a. put_else does.put (now log) (ReplyPlace place) (BlockPlace a) (ReplyUnit r) does.one (λ same. cc (same)) in
    subst (λ (ss : List Step). Both sh spell log w u ss) (sym does.are) (
      record { leads = on.0; keeps = record { sense = reply_keeps sh spell w sum op body keeps.sense none; tidy = on.0.tidy; written = same_written (now log) later w u same refl keeps.written } },
      λ backed. let stands = on.1 backed.standing in
          record { stands = stands; backed = backed_same log _ w u stands.standing same refl refl backed },
    )

pub block_on : (sh : Shape) (spell : Parts → List ℕ) (log : UnitLog) (w : Work) (a : ℕ) (b : Block) (steps : List Step)
    → IsChecksum b.checksum → 0 < b.kind
    → IsKeptBy sh spell log w → IsFree sh w a → DoesBlock w.view a b steps → Both sh spell log w (with_live w a (Some b.checksum)) steps
block_on sh spell log w a b steps fits own keeps free does = let none = nowhere w a free.unheld in
    let u = with_live w a (Some b.checksum) in let image = now log in let later = overlay does.put image in
    let on = tidy_block_law sh log w.view does.put a b keeps.tidy none.chain does.one in
    let spare : (c : ℕ) → w.view.checkpoint.parts.references a ≡ Some c → ⊥ = λ c is. cc (is, none.durable) in rw does.are (
      record {
        leads = on.0;
        keeps = record {
          sense = live_keeps sh spell w a b.checksum fits keeps.sense free;
          tidy = on.0.tidy;
          written = λ r at k x is.
              block_else image does.put a b does.one k (λ same. none.written r x at (rw same at is)) ∙ keeps.written r at k x is;
        };
      },
      λ backed. record {
        stands = on.1 backed.standing spare;
        backed = record {
          standing = (on.1 backed.standing spare).standing;
          live = λ k c is. live backed k c (k == a) refl is;
          captured = λ r at k c is. own_same image later k c (block_else image does.put a b does.one k (λ same.
              let empty = none.captured r at in cc (is, empty, ap r.parts.references same))) (backed.captured r at k c is);
        };
      },
    )
  where
    live : IsBacked log w → (k c : ℕ) (e : Bool)
        → (k == a) ≡ e → (if e then Some b.checksum else w.live k) ≡ Some c → ShowsOwnBlock (overlay does.put (now log)) k c
    live backed k c true same is = (b, ap (λ (i : ℕ). overlay does.put (now log) (BlockPlace i)) (eqb-true k a same) ∙ put_at (now log) does.put (BlockPlace a) (BlockUnit b) does.one, (let both : Some b.checksum ≡ Some c = is in cc), own)
    live backed k c false same is = own_same
        (now log) (overlay does.put (now log)) k c (block_else (now log) does.put a b does.one k (eqb-false k a same)) (backed.live k c is)
