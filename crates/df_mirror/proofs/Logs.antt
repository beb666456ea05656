-- The order of what is mended, the prepares that are named, and all of it.
use Rattle.std.{proofs.{Common.{◌≡◌, ℕ, ◌+◌, ◌<◌, ◌≤◌, ◌%◌, List, [], ◌∷◌, ◌++◌, length, Option, Some, refl, sym, ◌∙◌, ap, subst, arith, inl, inr}, lemmas.Bool.{cases_eq}}, specs.Prelude.{Result, Ok, Err, OnOk, take}}
use Rattle.{df_base.specs.Image.{IsImage}, df_disk.specs.Told.{Told}, df_layout.specs.declared.layout.Layout.{Layout}}
use Rattle.df_format.specs.{declared.kind.Kind.{Kind}, declared.kind.Kind.TheVariants.{Block as AsBlock, Prepare, Reply, Trailer}}
use Rattle.df_journal.{specs.{Scan.{Scan}, Scanned.{IsScanned}, Shows.{TellsRings}, declared.table.Start.{Start}}, proofs.Laws.{rings_shown}}
use Rattle.{df_units.specs.Bytes.{unit_at}, df_grid.specs.Grid.{GridState}, df_opening.specs.Below.{shape}}
use Rattle.df_sessions.specs.{declared.session.Session.{Session}, Requests.{sessions_of}, Table.{Table}}
use Rattle.df_theory.{specs.{Opens.{AreKnown, named_by}, Sessions.{sessions_after}, Units.{BlockPlace, Message, Parts, Place, PreparePlace, PrepareUnit, ReplyPlace, Units}}, proofs.Laws.{known_one}}
use Rattle.df_theory.specs.Units as model
use Rattle.df_mirror.{specs.{declared.ending.Ending.{Ending}, declared.ending.Ending.TheVariants.{First, Neither, Second, Sink, Unopened}, declared.superblock.Superblock.{Superblock}, Known.{AreShown, IsKnownAt, IsNamedPrepare, IsShownAs, ShowsTrailer, rank_of_kind}, Mends.{AnswersMending, AreFrom, AreInOrder, AreLate, AreOfKind, IsRefusal, Mend}, Outside.{Outside, Tell, around}, Refusals.{RefusesFirstTrailer}, Walks.{HasHead, HasTrailerText, HasWaiting, Mended, ReadsChainText, ShowsAll, ShowsBlocks, ShowsGrid, ShowsLog, ShowsNamed, content_of_superblock, superblock_units}}, proofs.{Frames.{other_kind}, Joined.{answers_with, more, none_came, none_failed}, Orders.{grid_shown, grid_there}, Turns.{none_read, read_behind, shows_more, then_mended}}}

-- ---- the order

from_lower : (low high : ℕ) (ls : List Mend) → low ≤ high → AreFrom high ls → AreFrom low ls
from_lower low high [] less from = tt
from_lower low high (m ∷ ls) less from = (omega (arith, less, from.0), from.1)

pub from_kind : (rank : ℕ) (kind : Kind) (ms : List Mend) → rank ≤ rank_of_kind kind → AreOfKind kind ms → AreFrom rank ms
from_kind rank kind [] less are = tt
from_kind rank kind (m ∷ ms) less are = (rw (sym are.0) at less, rw (sym are.0) at (from_kind (rank_of_kind kind) kind ms (omega arith) are.1))

pub then_from : (rank : ℕ) (kind : Kind) (ms ls : List Mend)
    → rank ≤ rank_of_kind kind → AreOfKind kind ms → AreFrom (rank_of_kind kind) ls → AreFrom rank (ms ++ ls)
then_from rank kind [] ls less are from = from_lower rank (rank_of_kind kind) ls less from
then_from rank kind (m ∷ ms) ls less are from =
    (rw (sym are.0) at less, rw (sym are.0) at (then_from (rank_of_kind kind) kind ms ls (omega arith) are.1 from))

-- this many of one kind were mended, a read comes after them, and then those that follow in the order
pub walk_then : {b : Superblock} {t o : Told} {old mid new : Outside} {told : Option Told} {a : ℕ} {Before After : Units → Type 0} (low high : ℕ) (kind : Kind) → low ≤ rank_of_kind kind → rank_of_kind kind ≤ high → Tell t o old → Mended b (AreOfKind kind) t o old mid (Ok a) Before → mid.second ≡ old.second
    → told ≡ mid.first → (result : Result ℕ Ending) → (IsRefusal result → (ms : List Mend) → AreOfKind kind ms → AreOfKind Trailer ms) → ((m : Told) → Tell m o (around told mid.second mid.written) → Before (superblock_units b m.shown) → Mended b (AreFrom high) m o (around told mid.second mid.written) new result After)
    → Mended b (AreFrom low) t o old new (more a result) After
walk_then {mid = mid} {told = told} low high kind from to tell has same read result only next =
    then_mended {mid = around told mid.second mid.written} (λ ms ls of then. then_from
    low kind ms ls from of (from_lower (rank_of_kind kind) high ls to then)) tell same (read_behind has read refl) result only next

-- the trailer is refused
pub refused_here : (b : Superblock) (rank : ℕ) (m o : Told) (old : Outside) (e : Ending) (Shows : Units → Type 0)
    → Tell m o old → ReadsChainText b m.shown (Err e) → Mended b (AreFrom rank) m o old old (Err e) Shows
refused_here b rank m o old e Shows tell reads = record { answers = by e reads; shown = λ u is. tt }
  where
    by : (e : Ending) → ReadsChainText b m.shown (Err e)
        → AnswersMending b.file (content_of_superblock b) (AreFrom rank) m o old.first old.written old.written (Err e)
    by (Unopened e) reads = none_came b.file (content_of_superblock b) (AreFrom rank) tt m o old.first old.written old.written
        tell.first refl (λ ms n. AreOfKind Trailer ms × RefusesFirstTrailer b.file n.shown (content_of_superblock b) e) (tt, reads)
    by First reads =
        none_failed b.file (content_of_superblock b) (AreFrom rank) tt m o old.first old.written old.written First (tell.first, refl)
    by Second reads = absurd reads
    by Sink reads = absurd reads
    by (Neither place class) reads = absurd reads

-- ---- the prepares that are named

pub named_shown : (n : ℕ) (image : Units) (sum pin op a : ℕ) (ps later : List Message)
    → AreKnown n image (op + 1) sum ps → op + length ps ≡ pin → op < a → AreKnown n image (a + 1) sum later → a + length later ≡ pin
    → (p : Message) × (image (PreparePlace (a % n)) ≡ Some (PrepareUnit p)) × (p.header.checksum ≡ named_by sum later)
named_shown n image sum pin op a [] later known count above also size = absurd (omega (arith, count, above, size))
named_shown n image sum pin op a (p ∷ ps) later known count above also size = elim (cases_eq a (op + 1)) [
  | inl here ↦ let from : AreKnown n image (op + 1 + 1) sum later = rw here at also in
      let rest : ps ≡ later = known_one n image (op + 1 + 1) sum ps later known.2 from (omega (arith, count, size, here)) in
      (p, ap (λ (x : ℕ). image (PreparePlace (x % n))) here ∙ known.0, known.1 ∙ ap (λ (l : List Message). named_by sum l) rest)
  | inr other ↦ named_shown n image sum pin (op + 1) a ps later known.2 (omega (arith, count)) (omega (arith, above, other)) also size
]

-- all that are known are shown
pub prepares_shown : (b : Superblock) (image : Units) → ShowsNamed b image → AreShown (shape b.file) image (content_of_superblock b) Prepare
prepares_shown b image named place sum known = by place known
  where
    by : (place : Place) → IsKnownAt (shape b.file) image (content_of_superblock b) Prepare place sum → IsShownAs image Prepare place sum
    by (PreparePlace s) is = let of : IsNamedPrepare (shape b.file) image (content_of_superblock b) s sum = is in
        let there = named_shown b.file.layout.slots image (content_of_superblock b).pin_checksum
        (content_of_superblock b).pin b.content.op of.op named.named of.later named.known named.count of.above of.known of.count in
        record { unit = PrepareUnit there.0; shown = ap (λ (x : ℕ). image (PreparePlace x)) of.slot_is ∙ there.1; of_kind = tt; sum_is = there.2 ∙ sym of.sum_is }
    by place is = absurd is

pub known_there : (n : ℕ) (image other : Units) (op sum : ℕ) (ps : List Message)
    → ((s : ℕ) → other (PreparePlace s) ≡ image (PreparePlace s)) → AreKnown n image op sum ps → AreKnown n other op sum ps
known_there n image other op sum [] same known = tt
known_there n image other op sum (p ∷ ps) same known = (same (op % n) ∙ known.0, known.1, known_there n image other (op + 1) sum ps same known.2)

pub named_there : (b : Superblock) (image other : Units)
    → ((s : ℕ) → other (PreparePlace s) ≡ image (PreparePlace s)) → ShowsNamed b image → ShowsNamed b other
named_there b image other same is = record { named = is.named; known = known_there b.file.layout.slots image other (b.content.op + 1) (content_of_superblock b).pin_checksum is.named same is.known; count = is.count }

-- ---- the sessions at the head

pub head_is : (b : Superblock) (image now : Units) → ShowsGrid b now → (slots : Scan) (table : Table) (ss : List model.Session) (says : ShowsTrailer (shape b.file) image (content_of_superblock b)) → says.parts.sessions ≡ ss → ((a : ℕ) → now (BlockPlace a) ≡ image (BlockPlace a)) → ShowsNamed b now
    → TellsRings b.file.layout now slots → table.max ≡ b.file.layout.clients
    → ((named : List Message) → AreKnown b.file.layout.slots now (b.content.op + 1) (content_of_superblock b).pin_checksum named → b.content.op + length named ≡ (content_of_superblock b).pin → sessions_of table.sessions ≡ take b.file.layout.clients (sessions_after ss named)) → HasHead b now slots table
head_is b image now grid slots table ss says same blocks named tells places given = record {
  grid = grid;
  tells = tells;
  sessions = sessions_after says.parts.sessions named.named;
  has = record { says = record { chain = says.chain; parts = says.parts; trailer = says.trailer; shown = λ a x at. blocks a ∙ says.shown a x at }; named = named.named; known = named.known; count = named.count; sessions_are = refl };
  places = places;
  table_is = given named.named named.known named.count
      ∙ ap (λ (l : List model.Session). take b.file.layout.clients (sessions_after l named.named)) (sym same);
}

-- The prepares were mended, this many of them, and then the rings are read, and the sessions brought to the head.
module _ (b : Superblock) (t o : Told) (old mid : Outside) (a : ℕ) (tell : Tell t o old) (came : Mended b (AreOfKind
    Prepare) t o old mid (Ok a) (ShowsNamed b)) (same : mid.second ≡ old.second) (told : Option Told) (read : told ≡ mid.first) where
  -- the rings can't be read
  pub log_unread : (Shows : Units → Type 0) → Mended b AreLate t o old (around told mid.second mid.written) (Err First) Shows
  log_unread Shows = walk_then 3 3 Prepare (omega arith) (omega arith) tell came same read (Err First) (λ refusal. absurd refusal) (λ m on named. none_read b (AreFrom 3) tt m o (around told mid.second mid.written) (around told mid.second mid.written) on refl refl Shows)

  -- and then the replies are mended
  module _ (grid : ShowsGrid b (superblock_units b t.shown)) (says : ShowsTrailer (shape b.file) (superblock_units b t.shown) (content_of_superblock b)) (ss : List model.Session) (of_trailer : says.parts.sessions ≡ ss) (layout : Layout) (of_file : layout ≡ b.file.layout) (slots : Scan) (start : Start) (begun : slots.start ≡ start)
      (cluster : start.cluster ≡ b.file.cluster)
      (scanned : IsScanned layout mid.first slots) (table : Table) (places : table.max ≡ b.file.layout.clients)
      (brought : (image : Units) (named : List Message) → TellsRings b.file.layout image slots → AreKnown b.file.layout.slots image
      (b.content.op + 1) (content_of_superblock b).pin_checksum named → b.content.op + length named ≡ (content_of_superblock b).pin
      → sessions_of table.sessions ≡ take b.file.layout.clients (sessions_after ss named)) where
    module _ (m : Told) (on : Tell m o (around told mid.second mid.written)) (named : ShowsNamed b (superblock_units b m.shown)) where
      came_there : mid.first ≡ Some m
      came_there = sym read ∙ on.first

      blocks_there : (x : ℕ) → superblock_units b m.shown (BlockPlace x) ≡ superblock_units b t.shown (BlockPlace x)
      blocks_there x = other_kind b.file (content_of_superblock b)
          t o m mid.first old.written mid.written tell.whole came_there (BlockPlace x) Prepare a came.answers (λ no. no)

      rings : TellsRings b.file.layout (superblock_units b m.shown) slots
      rings = let here : IsScanned b.file.layout (Some m) slots = rw of_file at (rw came_there at scanned) in
          subst (λ (n : ℕ). TellsRings b.file.layout (unit_at b.file.layout n m.shown) slots)
          (ap (λ (x : Start). x.cluster) begun ∙ cluster) (rings_shown b.file.layout m slots here)

      head : HasHead b (superblock_units b m.shown) slots table
      head = head_is b (superblock_units b t.shown) (superblock_units b m.shown) (grid_there b (superblock_units b t.shown) (superblock_units b m.shown) blocks_there grid) slots table ss says of_trailer blocks_there named rings places (λ ps known count. brought (superblock_units b m.shown) ps rings known count)

      log_shown : (new : Outside) (result : Result ℕ Ending) → Mended b (AreOfKind Reply) m o (around told mid.second mid.written)
          new result (λ image. AreShown (shape b.file) image (content_of_superblock b) Reply) → (u : Told) → new.first ≡ Some u
          → OnOk result (ShowsLog b (superblock_units b t.shown) (superblock_units b u.shown))
      log_shown new (Err e) rest u is = tt
      log_shown new (Ok k) rest u is = record {
        blocks = λ x. other_kind b.file (content_of_superblock b)
            m o u new.first mid.written new.written on.whole is (BlockPlace x) Reply k rest.answers (λ no. no) ∙ blocks_there x;
        prepares = prepares_shown b (superblock_units b u.shown) (named_there b (superblock_units b m.shown) (superblock_units b u.shown) (λ s. other_kind b.file (content_of_superblock b) m o u new.first mid.written new.written on.whole is (PreparePlace s) Reply k rest.answers (λ no. no)) named);
        replies = rest.shown u is;
      }

    pub log_mended : (new : Outside) (result : Result ℕ Ending) → (IsRefusal result → ⊥)
        → ((m : Told) → Tell m o (around told mid.second mid.written) → HasHead b (superblock_units b m.shown) slots table → Mended b (AreOfKind Reply) m o (around told mid.second mid.written) new result (λ image. AreShown (shape b.file) image (content_of_superblock b) Reply))
        → Mended b AreLate t o old new (more a result) (ShowsLog b (superblock_units b t.shown))
    log_mended new result never next =
        walk_then 3 3 Prepare (omega arith) (omega arith) tell came same read result (λ refusal. absurd (never refusal)) (λ m on named.
        let rest = next m on (head m on named) in record {
          answers = answers_with b.file (content_of_superblock b) (AreOfKind Reply)
              (AreFrom 3) m o new.first mid.written new.written result (λ ms are. from_kind 3 Reply ms (omega arith) are) rest.answers;
          shown = log_shown m on named new result rest;
        })

-- ---- all of it

pub all_shown : (b : Superblock) (grid : GridState) (ss : List Session) (image now : Units)
    → ShowsBlocks b image grid ss b.file.layout.blocks → ShowsLog b image now → ShowsAll b now
all_shown b grid ss image now blocks log = record { all = by; trailer = there.passes }
  where
    there : ShowsGrid b now
    there = grid_there b image now log.blocks (grid_shown b grid ss image blocks)

    by : (kind : Kind) (place : Place) (sum : ℕ)
        → IsKnownAt (shape b.file) now (content_of_superblock b) kind place sum → IsShownAs now kind place sum
    by Trailer place sum known = there.trailer place sum known
    by AsBlock place sum known = there.blocks place sum known
    by Prepare place sum known = log.prepares place sum known
    by Reply place sum known = log.replies place sum known
    by kind place sum known = absurd known

-- ---- the walks one after the other

-- this many blocks of the trailer were mended, and it was read, and of those that it references this many; and then the log is
pub all_mended : {b : Superblock} {t o : Told} {old mid late new : Outside} {told : Option Told} {a k : ℕ}
    (grid : GridState) (ss : List Session) → Tell t o old
    → Mended b (AreOfKind Trailer) t o old mid (Ok a) (λ image. AreShown (shape b.file) image (content_of_superblock b) Trailer)
    → mid.second ≡ old.second
    → told ≡ mid.first → ((m : Told) → mid.first ≡ Some m → IsImage m.shown → AreShown (shape b.file) (superblock_units b m.shown)
    (content_of_superblock b) Trailer → HasTrailerText b (superblock_units b m.shown) grid ss × HasWaiting b ss)
    → ((m : Told) → Tell m o (around told mid.second mid.written) → HasTrailerText b (superblock_units b m.shown) grid ss × HasWaiting b ss → Mended b (AreOfKind AsBlock) m o (around told mid.second mid.written) late (Ok k) (λ image. ShowsBlocks b image grid ss b.file.layout.blocks)) → late.second ≡ mid.second
    → (result : Result ℕ Ending) → (IsRefusal result → ⊥) → ((m : Told) → Tell m o late → ShowsGrid b (superblock_units b m.shown) → (says : ShowsTrailer (shape b.file) (superblock_units b m.shown) (content_of_superblock b)) → says.parts.sessions ≡ sessions_of ss → Mended b AreLate m o late new result (ShowsLog b (superblock_units b m.shown)))
    → Mended b AreInOrder t o old new (more a (more k result)) (ShowsAll b)
all_mended {b = b} {k = k} grid ss tell chain same read has blocks also result never log =
    walk_then 0 1 Trailer (omega arith) (omega arith) tell chain same read (more k result) (λ refusal ms are. are) (λ m on shown.
    let text = has m (sym read ∙ on.first) on.whole shown in
    walk_then 1 3 AsBlock (omega arith) (omega arith) on (blocks m on text) also refl result (λ refusal. absurd (never refusal)) (λ n then shows.
    shows_more (λ image shown. all_shown b grid ss (superblock_units b n.shown) image shows shown)
    (log n then (grid_shown b grid ss (superblock_units b n.shown) shows) shows.has.says shows.has.sessions_are)))
