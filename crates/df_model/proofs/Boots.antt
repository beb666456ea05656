-- A boot update: it may be made, its state makes sense, and it leads on.
use Rattle.std.proofs.Common.{◌≡◌, inl, inr, ℕ, ◌+◌, ◌-◌, ◌<◌, ◌^◌, List, [], ◌∷◌, length, take, drop, false, true, refl, sym, ◌∙◌, ap, arith}
use Rattle.df_theory.{specs.{Units.{BlockPlace, Content, Message, Parts, PreparePlace, PrepareUnit}, Tails.{In, last_checksum}, Shape.{Shape}, View.{Checkpoint, View, boot_of, head}, Holds.{IsWhole, Stands}, Next.{MayBoot, booted}, UnitLog.{UnitLog, now, settled}, Chance.{EachLeft}, Grown.{IsClear as IsClearOf}, Rests.{IsGoodLog}, Runs.{AtEach, Step, after_step, after_steps}, CopyPuts.{PutsCopies, update_steps}, WholeLaws.{IsStanding}, WriterLaws.{Updates}, TidyLaws.{IsGoodWhole, IsTidy}, Upgrades.{as_version}}, proofs.Laws.{boot_law, boot_sound, found_sound, low_steps, low_update, may_raise, prepare_agrees, stands_law, whole_update_law}}
use Rattle.df_model.{specs.{Work.{Work, opened, raised}, Memory.{Memory, memory_of}, Making.{boot_content, named_sums}, Sense.{Captured, Chained, Durable, IsBacked, IsClearAddress, Live, Written}, Laws.{BacksOn, LeadsOn}, Boots.{BootCommandLaw, BootMayLaw, IsMendedFor, RaisedLaw, Raises}}, proofs.{Captures.{capture_raised}, Grid.{each_weaker}, Groups.{staged_on}, Knows.{KnowsNoMore, one_fewer}, NoBlocks.{blocks_stay, spare_all, update_no_blocks}, Recording.{IsRecordable, named_count, recordable, records_now}, Runs.{found_few}, Writing.{own_same}}}

-- ---- what may be raised

-- the superblock of a boot update, over a state whose superblock is of version 2
may_boot : (sh : Shape) (spell : Parts → List ℕ) (w : Work) (sum : ℕ) → IsRecordable w.view
    → w.view.checkpoint.content.version ≡ 2 → boot_of w.view < 2 ^ 62 → MayBoot w.view (boot_content (memory_of sh spell w) sum)
may_boot sh spell w sum can second unspent = let c : Content = w.view.checkpoint.content in let m : Memory = memory_of sh spell w in
    let none : c.op - c.op ≡ 0 = omega arith in may_raise w.view sum m.head_checksum (named_sums m) second unspent
    (records_now sh spell w can (record c { checksum = sum; boot = boot_of w.view + 1 })
    (omega arith) (omega arith) (sym (ap (λ (n : ℕ). last_checksum c.op_checksum (take n w.view.tail)) none)))

pub boot_may_law : BootMayLaw
boot_may_law sh spell image v sum codec places of found unspent = may_boot sh spell (opened sh image (as_version 2 v))
    sum (recordable sh 2 v (found_sound sh image v of found) (found_few sh spell image v codec of found) places) refl unspent

-- nothing more is known of blocks
raised_knows : (w : Work) (d : Content) → KnowsNoMore w (raised w d)
raised_knows w d a c (Live is) = Live is
raised_knows w d a c (Captured r at is) = Captured r at is
raised_knows w d a c (Written r b at is sum) = Written r b at is sum
raised_knows w d a c (Durable is) = Durable is
raised_knows w d a c (Chained b is sum) = Chained b is sum

pub raised_law : RaisedLaw
raised_law sh spell w sum work unspent = record {
  may = may;
  sense = record {
    codec = work.codec;
    version = record { version = work.version.version; places = work.version.places; names = named_count (memory_of sh spell w) };
    view = boot_sound sh w.view d work.view may;
    sessions = work.sessions;
    grid = work.grid;
    waiting = record { count = work.waiting.count; each = work.waiting.each };
    staged = let m = memory_of sh spell w in let n = memory_of sh spell (raised w d) in let top = head w.view in
        staged_on sh w.view (booted w.view d) m n (top + 1) (top + length w.staged) (top + 1) (top + length w.staged) (top
        + 1) (top + 1) m.head_checksum n.head_checksum w.staged [] [] refl (omega arith) (omega arith) refl (omega arith) refl work.staged;
    running = λ r at. capture_raised sh spell w sum r (work.running r at);
    one = one_fewer w (raised w d) (raised_knows w d) work.one;
    sums = work.sums;
    few = work.few;
    clear = λ r at. each_weaker (IsClearAddress w.live w.view.checkpoint) (IsClearAddress w.live (booted w.view d).checkpoint) (λ a free.
        record { dead = free.dead; unreferenced = free.unreferenced; no_trailer = free.no_trailer }) r.left (work.clear r at);
  };
  memory = refl;
  bare = record { content = may.is.same; chain = refl; parts = refl; tail = refl; replies = refl; stored = λ k. refl };
}
  where
    d : Content
    d = boot_content (memory_of sh spell w) sum

    may : MayBoot w.view d
    may = may_boot sh spell w sum (recordable sh w.view.checkpoint.content.version w.view work.view work.sessions.few work.version.places)
        (work.view.checkpoint.tests.version ∙ work.version.version) unspent

-- ---- referenced blocks

-- what stands stands at each moment, whichever of the two views is left
pub stands_each : (sh : Shape) (v : View) (d : Content) (ss : List Step) (log : UnitLog) → AtEach (IsGoodLog sh v (booted v d)) log ss
    → AtEach (λ l. IsStanding l v × EachLeft l (λ image. Stands image v)) log ss → AtEach (IsGoodWhole sh v (booted v d)) log ss
stands_each sh v d [] log good stands = record { safe = good.safe; left = λ image left chance. elim (good.left image left chance) [ inl holds ↦ inl (holds, stands.1 image left chance) | inr holds ↦ inr (holds, stands.1 image left chance) ] }
stands_each sh v d (s ∷ ss) log good stands = (
  record { safe = good.0.safe; left = λ image left chance. elim (good.0.left image left chance) [ inl holds ↦ inl (holds, stands.0.1 image left chance) | inr holds ↦ inr (holds, stands.0.1 image left chance) ] },
  stands_each sh v d ss (after_step s log) good.1 stands.1,
)

pub stands_last : (v : View) (ss : List Step) (log : UnitLog)
    → AtEach (λ l. IsStanding l v × EachLeft l (λ image. Stands image v)) log ss → IsStanding (after_steps ss log) v
stands_last v [] log each = each.0
stands_last v (s ∷ ss) log each = stands_last v ss (after_step s log) each.1

-- ---- the update

module _ (sh : Shape) (spell : Parts → List ℕ) (log : UnitLog) (w : Work) (sum : ℕ) (mended : IsMendedFor sh spell log w)
    (unspent : boot_of w.view < 2 ^ 62) (puts : PutsCopies (boot_content (memory_of sh spell w) sum)) where
  abbrev v : View
  v = w.view

  abbrev d : Content
  d = boot_content (memory_of sh spell w) sum

  abbrev u : Work
  u = raised w d

  abbrev later : UnitLog
  later = after_steps (update_steps puts) log

  raises : Raises sh spell w d
  raises = raised_law sh spell w sum mended.sense unspent

  may : MayBoot v d
  may = raises.may

  update : Updates sh log v (booted v d) puts
  update = (boot_law sh log v d puts mended.mended.rests mended.dry may mended.mended.whole.copies).0

  clear : IsClearOf (settled later) (booted v d)
  clear = (low_steps d.boot (head v) (update_steps puts) log (low_update d.boot (head v) d puts) (record {
    settled = λ s p at own. let a = mended.mended.rests.old (PreparePlace s) (PrepareUnit p) at in
        let same : a.0 ≡ p = (let e = a.1 in cc) in absurd (omega (arith, a.2.boot, ap (λ (q : Message). q.header.boot) same, may.is.boot));
    shown = λ s p is own. absurd (omega (arith, (prepare_agrees sh (now log) v mended.mended.rests.holds.bears.sound mended.mended.rests.holds.bears.agrees s p is).boot, may.is.boot));
  })).settled

  whole : IsWhole sh (now later) (booted v d)
  whole = let c : Checkpoint = record { content = d; chain = v.checkpoint.chain; parts = v.checkpoint.parts } in
      let after = whole_update_law sh (now log) v c puts mended.mended.whole in
      let none : v.checkpoint.content.op - v.checkpoint.content.op ≡ 0 = omega arith in record {
        copies = after.copies;
        headers = λ s below. let h = after.headers s below in (h.0, h.1, λ p at slot. h.2 p (rw none at) slot);
      }

  tidy : IsTidy sh later (booted v d)
  tidy = record { rests = update.leads.rests; quiet = λ place wet. absurd (let no_unit : false ≡ true = wet in cc); clear = clear; whole = whole }

  same : (a : ℕ) → now later (BlockPlace a) ≡ now log (BlockPlace a)
  same = blocks_stay (update_steps puts) log (update_no_blocks d puts)

  pub update_leads : LeadsOn sh spell log w u (update_steps puts)
  update_leads = record {
    leads = record { leads = update.leads; tidy = tidy };
    keeps = record { sense = raises.sense; tidy = tidy; written = λ r at a b is. same a ∙ mended.written r at a b is };
  }

  pub update_backs : IsBacked log w → BacksOn sh log w u (update_steps puts)
  update_backs backed =
      let stands = stands_law log v (update_steps puts) backed.standing (spare_all v (update_steps puts) (update_no_blocks d puts)) in
      let last = stands_last v (update_steps puts) log stands in record {
        stands = record { moments = stands_each sh v d (update_steps puts) log update.leads.moments stands; standing = record { shown = last.shown; firm = last.firm } };
        backed = record {
          standing = record { shown = last.shown; firm = last.firm };
          live = λ a c is. own_same (now log) (now later) a c (same a) (backed.live a c is);
          captured = λ r at a c is. own_same (now log) (now later) a c (same a) (backed.captured r at a c is);
        };
      }

pub boot_command_law : BootCommandLaw
boot_command_law sh spell log w sum steps mended unspent does = let u = raised w (boot_content (memory_of sh spell w) sum) in rw does.are
    (update_leads sh spell log w sum mended unspent does.puts, update_backs sh spell log w sum mended unspent does.puts)
