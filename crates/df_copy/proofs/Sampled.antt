-- A sample: a file with one reply and one block is copied to a larger layout, and the copy is damaged and opened.
use Rattle.std.{proofs.{Common.{◌≡◌, ◌⊎◌, inl, inr, ℕ, zero, suc, ◌+◌, ◌<◌, ◌≤◌, ◌==◌, Bool, true, false, if◌then◌else◌, List, [], ◌∷◌, Option, Some, None, refl, sym, ◌∙◌, ap, subst, arith, eqb-true}, lemmas.Option.{same_Some, slice_get_within}}, specs.Prelude.{slice_get, slice_index}}
use Rattle.df_theory.{specs.{Copies.{Agree}, Found.{AreOfPlaces, IsClean, IsFound, IsInRange, IsOfPlace}, Holds.{Holds, IsWhole, Stands}, MendLaws.{IsNumber}, Next.{MayBoot, booted}, Rests.{RestsOn}, Sessions.{Answers}, Shape.{Shape}, UnitLog.{UnitLog, put_one}, Units.{AnyUnit, Block, BlockPlace, BlockUnit, Content, CopyPlace, CopyUnit, Header, HeaderPlace, HeaderUnit, Layout, Message, Parts, Place, PreparePlace, PrepareUnit, ReplyPlace, ReplyUnit, Session, Units}, View.{Checkpoint, IsSoundCheckpoint, View}}, proofs.Laws.{AreTold, all_reserved, anew_law, clean_start_law, copies_of, distinct_of, may_raise, put_one_law, puts_reserved, reserved, rests_law, low_bytes}}
use Rattle.df_history.{specs.{Histories.{InHistoryPools, IsLived, MayStart}, Lives.{Starts}, OpenLaws.{BeginsHistory, IsOpening}, Sample.{IsReopened, opened}}, proofs.Laws.{first_grown_law, found_since_law, open_lived_law}}
use Rattle.df_copy.{specs.{Sample.{CopySampleLaw}, Views.{IsCopyOf, IsOlder, renamed}}, proofs.Rested.{NamesAll, ShowsRest, rest_found, rest_whole, view_at_rest}}

-- ---- the source

abbrev layout : Layout
layout = record { slots = 16; message_size = 4096; clients = 4; block_size = 4096; blocks = 64 }

abbrev reply : Message
reply = record { header = record { checksum = 6; parent = 5; client = 7; op = 1; request = 1; mark = 1; checkpoint = 1; boot = 1; group = 1; group_last = 1 }; body = [] }

abbrev session : Session
session = record { client = 7; request = 1; op = 1 }

abbrev block : Block
block = record { checksum = 31; kind = 1; sequence = 1; index = 0; before = 0; before_checksum = 0; boot = 1; body = 0 ∷ [] }

-- a trailer of one block, by its checksum
abbrev trailer : ℕ → Block
trailer sum = record { checksum = sum; kind = 0; sequence = 2; index = 0; before = 0; before_checksum = 0; boot = 1; body = 0 ∷ [] }

-- the superblock of a file at rest after op 1, by its checksum, its layout, its boot, and its trailer's address and checksum
abbrev content : (sum : ℕ) → Layout → (boot trailer trailer_sum : ℕ) → Content
content sum l boot address trailer_sum = record {
  checksum = sum;
  version = 2;
  cluster = 3;
  layout = l;
  sequence = 2;
  boot = boot;
  op = 1;
  op_checksum = 5;
  head = 1;
  replies = 1;
  pin = 1;
  pin_checksum = 5;
  answered = 2;
  reply_checksums = 6 ∷ [];
  trailer = address;
  trailer_checksum = trailer_sum;
  trailer_size = 1;
  rest = [];
}

-- one block is referenced, at this address and with this checksum
abbrev referenced : (address sum : ℕ) → ℕ → Option ℕ
referenced address sum a = if a == address then Some sum else None

abbrev parts : (address sum : ℕ) → Parts
parts address sum = record { root = []; sessions = session ∷ []; references = referenced address sum }

abbrev stored : ℕ → Option Message
stored zero = Some reply
stored (suc k) = None

abbrev view : View
view = view_at_rest (record { content = content 20 layout 2 12 30; chain = (12, trailer 30) ∷ []; parts = parts 9 31 }) stored

-- what is asked of it: its block
abbrev source : Units
source (CopyPlace n) = Some (CopyUnit (content 20 layout 2 12 30))
source (HeaderPlace s) = Some (HeaderUnit reserved)
source (PreparePlace s) = None
source (ReplyPlace zero) = Some (ReplyUnit reply)
source (ReplyPlace (suc k)) = None
source (BlockPlace a) = if a == 9 then Some (BlockUnit block) else (if a == 12 then Some (BlockUnit (trailer 30)) else None)

-- its only block, with its address
abbrev own_block : ℕ × Block
own_block = (9, block)

-- ---- the copy

abbrev larger : Layout
larger = record { slots = 32; message_size = 8192; clients = 8; block_size = 4096; blocks = 1024 }

abbrev shape : Shape
shape = record { version = 2; cluster = 3; layout = larger; named = omega arith; some = omega arith; parse = λ op text. Some (parts 1 33) }

abbrev c : Content
c = content 21 larger 2 2 32

abbrev checkpoint : Checkpoint
checkpoint = record { content = c; chain = (2, trailer 32) ∷ []; parts = parts 1 33 }

abbrev copied : View
copied = view_at_rest checkpoint stored

-- the blocks at the two addresses
abbrev block_at : ℕ → Option AnyUnit
block_at zero = None
block_at (suc zero) = Some (BlockUnit (renamed 33 block))
block_at (suc (suc zero)) = Some (BlockUnit (trailer 32))
block_at (suc (suc (suc a))) = None

abbrev target : Units
target (CopyPlace n) = Some (CopyUnit c)
target (HeaderPlace s) = Some (HeaderUnit reserved)
target (PreparePlace s) = None
target (ReplyPlace zero) = Some (ReplyUnit reply)
target (ReplyPlace (suc k)) = None
target (BlockPlace a) = block_at a

is_address : (address sum a found : ℕ)
    → (b : Bool) → (a == address) ≡ b → (if b then Some sum else None) ≡ Some found → (a ≡ address) × (sum ≡ found)
is_address address sum a found true here at = (eqb-true a address here, (let both : Some sum ≡ Some found = at in cc))
is_address address sum a found false here at = absurd (let both : None ≡ Some found = at in cc)

copy : IsCopyOf larger source view target copied
copy = record {
  content = record { file = (refl, refl); layout_is = refl; sequence = refl; boot = refl; op = (refl, refl); head = (refl, refl); pin = (refl, refl); named = (refl, refl); trailer = (λ no. absurd (omega (arith, no)), λ no. absurd (omega (arith, no))) };
  root = refl;
  sessions = refl;
  rest = (refl, refl);
  replies = refl;
  stored = λ k. refl;
  blocks = own_block ∷ [];
  are = record {
    rise = (omega arith, tt);
    each = λ a b at. elim at [
      | inl here ↦ (ap (λ (n : ℕ). source (BlockPlace n)) here.0 ∙ ap (λ (x : Block). Some (BlockUnit x)) (sym here.1), ap (referenced 9 31) here.0 ∙ ap (λ (x : Block). Some x.checksum) (sym here.1))
      | inr none ↦ absurd none
    ];
    all = λ a sum at. let is = is_address 9 31 a sum (a == 9) refl at in (block, inl (is.0, refl));
  };
  renamed = record {
    each = λ i a b at. one_block i a b at;
    only = λ k sum at. let is = is_address 1 33 k sum (k == 1) refl at in (omega (arith, is.0), omega (arith, is.0));
  };
}
  where
    one_block : (i a : ℕ) (b : Block) → slice_get (own_block ∷ []) i ≡ Some (a, b)
        → (sum : ℕ) × (referenced 1 33 (i + 1) ≡ Some sum) × (target (BlockPlace (i + 1)) ≡ Some (BlockUnit (renamed sum b)))
    one_block zero a b at = (33, refl, ap (λ (x : ℕ × Block). Some (BlockUnit (renamed 33 x.1))) (same_Some own_block (a, b) at))
    one_block (suc i) a b at = absurd (omega (arith, slice_get_within (own_block ∷ []) (suc i) (a, b) at))

-- ---- it is found

spare : (k : ℕ) → 8 ≤ k → slice_index (6 ∷ []) k ≡ 0
spare zero low = absurd (omega (arith, low))
spare (suc k) low = refl

one_session : (k : ℕ) (s : Session) → slice_get (session ∷ []) k ≡ Some s → (k ≡ 0) × (session ≡ s)
one_session zero s at = (refl, let both : Some session ≡ Some s = at in cc)
one_session (suc k) s at = absurd (let both : None ≡ Some s = at in cc)

sound : IsSoundCheckpoint shape checkpoint
sound = record {
  tests = record {
    version = refl;
    layout = refl;
    cluster = refl;
    sequence = (omega arith, omega arith);
    boot = omega arith;
    op_checksum = λ zero_is. absurd (omega (arith, zero_is));
    head = (omega arith, omega arith, omega arith);
    replies = (omega arith, omega arith);
    pin = (omega arith, omega arith);
    pin_checksum = λ level. refl;
    answered = omega arith;
    spare = spare;
    of = record { one = λ is. absurd (omega (arith, is)); two = λ is. (refl, refl) };
    rest = λ i. refl;
  };
  trailer = record {
    reference = record { address = omega arith; some = λ some. omega arith; none = λ none. absurd (omega (arith, none)); size = λ some. (omega arith, omega arith) };
    links = (omega arith, refl, refl, refl, refl, refl, refl, refl);
    count = record { holds = omega arith; needed = λ some. omega arith };
    inside = λ a b at. elim at [ inl here ↦ omega (arith, here.0) | inr none ↦ absurd none ];
    size = refl;
    says = refl;
    spare = λ a b at. elim at [ inl here ↦ ap (referenced 1 33) here.0 | inr none ↦ absurd none ];
  };
  tracks = record {
    below = λ k s at. omega (arith, ap (λ (x : Session). x.op) (one_session k s at).1);
    apart = λ j k s t one two same. (one_session j s one).0 ∙ sym (one_session k t two).0;
    pending = λ o above upto. absurd (omega (arith, above, upto));
  };
}

names : NamesAll c
names = record { head = refl; replies = refl; pin = refl; pin_checksum = refl; answered = refl }

agreed : Agree target c
agreed = record { first = 0; second = 1; apart = omega arith; inside = omega arith; at_first = refl; at_second = refl }

only : (n : ℕ) (d : Content) → n < 4 → target (CopyPlace n) ≡ Some (CopyUnit d) → d ≡ c
only n d inside at = let both : Some (CopyUnit c) ≡ Some (CopyUnit d) = at in cc

own_reply : (k : ℕ) (r : Message) → target (ReplyPlace k) ≡ Some (ReplyUnit r) → reply ≡ r
own_reply zero r at = let both : Some (ReplyUnit reply) ≡ Some (ReplyUnit r) = at in cc
own_reply (suc k) r at = absurd (let both : None ≡ Some (ReplyUnit r) = at in cc)

shown : (k : ℕ) (s : Session) → slice_get (session ∷ []) k ≡ Some s → (r : Message)
    × (stored k ≡ Some r) × (target (ReplyPlace k) ≡ Some (ReplyUnit r)) × Answers s r × (slice_index (6 ∷ []) k ≡ r.header.checksum)
shown zero s at = (reply, refl, refl, rw (← (one_session 0 s at).1) (record { client = refl; request = refl; op = refl }), refl)
shown (suc k) s at = absurd (let both : None ≡ Some s = at in cc)

no_more : (k : ℕ) (r : Message) → stored k ≡ Some r → (s : Session) × (slice_get (session ∷ []) k ≡ Some s)
no_more zero r at = (session, refl)
no_more (suc k) r at = absurd (let both : None ≡ Some r = at in cc)

shows : ShowsRest shape target checkpoint stored
shows = record {
  agreed = agreed;
  only = only;
  headers = λ s h at. let both : Some (HeaderUnit reserved) ≡ Some (HeaderUnit h) = at in let same : reserved ≡ h = cc in record { op = ap (λ (x : Header). x.op) (sym same); checkpoint = ap (λ (x : Header). x.checkpoint) (sym same); boot = ap (λ (x : Header). x.boot) (sym same) };
  prepares = λ s. refl;
  chain = λ a x at. elim at [ inl here ↦ ap block_at here.0 ∙ ap (λ (y : Block). Some (BlockUnit y)) (sym here.1) | inr none ↦ absurd none ];
  replies = λ k r at. let same = own_reply k r at in record { checkpoint = omega (arith, ap (λ (x : Message). x.header.checkpoint) same); boot = omega (arith, ap (λ (x : Message). x.header.boot) same) };
  shown = shown;
  no_more = no_more;
}

found : IsFound shape target copied
found = rest_found shape target checkpoint stored sound names shows

whole : IsWhole shape target copied
whole = rest_whole shape target checkpoint stored sound names shows (λ n inside. refl) (λ s inside. (reserved, refl))

clean : IsClean target copied
clean n d at away = inl (let both : Some (CopyUnit c) ≡ Some (CopyUnit d) = at in cc)

stands : Stands target copied
stands a sum at = let is = is_address 1 33 a sum (a == 1) refl at in (renamed 33 block, ap block_at is.0, is.1, omega arith)

older : IsOlder target copied
older = record { prepares = λ s. refl; replies = λ k r at. omega (arith, ap (λ (x : Message). x.header.boot) (own_reply k r at)); counted = (refl, refl) }

-- ---- its units

abbrev block_with : ℕ → Block
block_with n = if n == 32 then trailer 32 else renamed 33 block

abbrev IsOurs : AnyUnit → Type 0
IsOurs (CopyUnit d) = d ≡ c
IsOurs (HeaderUnit h) = h ≡ reserved
IsOurs (PrepareUnit p) = ⊥
IsOurs (ReplyUnit r) = r ≡ reply
IsOurs (BlockUnit b) = b ≡ block_with b.checksum

told : AreTold IsOurs
told = record {
  contents = λ n. c;
  headers = λ n. reserved;
  prepares = λ n. reply;
  replies = λ n. reply;
  blocks = block_with;
  content = λ d is. is;
  header = λ h is. is;
  prepare = λ p none. absurd none;
  reply = λ r is. is;
  block = λ b is. is;
}

of_block : (a : ℕ) (x : AnyUnit) → block_at a ≡ Some x → IsOurs x × IsOfPlace shape (BlockPlace a) x
of_block zero x at = absurd (let both : None ≡ Some x = at in cc)
of_block (suc zero) x at = let both : Some (BlockUnit (renamed 33 block)) ≡ Some x = at in let same : BlockUnit (renamed 33 block) ≡ x =
    cc in (subst IsOurs same refl, (renamed 33 block, sym same, omega arith, λ i. low_bytes i))
of_block (suc (suc zero)) x at = let both : Some (BlockUnit (trailer 32)) ≡ Some x = at in
    let same : BlockUnit (trailer 32) ≡ x = cc in (subst IsOurs same refl, (trailer 32, sym same, omega arith, λ i. low_bytes i))
of_block (suc (suc (suc a))) x at = absurd (let both : None ≡ Some x = at in cc)

in_range : IsInRange reply.header
in_range = record { client = (omega arith, omega arith); request = (omega arith, omega arith); op = (omega arith, omega arith); checksums = (omega arith, omega arith) }

ours : (place : Place) (x : AnyUnit) → target place ≡ Some x → IsOurs x × IsOfPlace shape place x
ours (CopyPlace n) x at = let both : Some (CopyUnit c) ≡ Some x = at in
    let same : CopyUnit c ≡ x = cc in (subst IsOurs same refl, (c, sym same, omega arith))
ours (HeaderPlace s) x at = let both : Some (HeaderUnit reserved) ≡ Some x = at in
    let same : HeaderUnit reserved ≡ x = cc in (subst IsOurs same refl, (reserved, sym same, omega arith, λ some. absurd (omega arith)))
ours (PreparePlace s) x at = absurd (let both : None ≡ Some x = at in cc)
ours (ReplyPlace zero) x at = let both : Some (ReplyUnit reply) ≡ Some x = at in
    let same : ReplyUnit reply ≡ x = cc in (subst IsOurs same refl, (reply, sym same, in_range, record { first = refl; last = refl }))
ours (ReplyPlace (suc k)) x at = absurd (let both : None ≡ Some x = at in cc)
ours (BlockPlace a) x at = of_block a x at

places : AreOfPlaces shape target
places place x at = (ours place x at).1

-- ---- a history begins there

abbrev log : UnitLog
log = record { start = target; events = [] }

rests : RestsOn shape log copied
rests = clean_start_law shape target copied places found clean

starts : Starts target [] copied
starts = record {
  prepares = λ s p at. elim at [ inl here ↦ absurd (let both : None ≡ Some (PrepareUnit p) = here in cc) | inr none ↦ absurd none ];
  replies = λ k r at. elim at [ inl here ↦ older.replies k r here | inr none ↦ absurd none ];
  copies = λ n d away at. elim at [ inl here ↦ clean n d here away | inr none ↦ absurd none ];
  counted = older.counted;
}

begins : BeginsHistory shape target
begins = inr (copied, rests.holds, starts)

lived : IsLived shape (log ∷ [])
lived = first_grown_law shape log (inl (copied, record { fair = rests.fair; grows = rests.grows })) begins

-- ---- two copies and all headers are lost

abbrev hurt : Units
hurt (CopyPlace zero) = Some (CopyUnit c)
hurt (CopyPlace (suc zero)) = Some (CopyUnit c)
hurt (CopyPlace (suc (suc n))) = None
hurt (HeaderPlace s) = None
hurt (PreparePlace s) = None
hurt (ReplyPlace zero) = Some (ReplyUnit reply)
hurt (ReplyPlace (suc k)) = None
hurt (BlockPlace a) = block_at a

left : (place : Place) (x : AnyUnit) → hurt place ≡ Some x → target place ≡ Some x
left (CopyPlace zero) x at = at
left (CopyPlace (suc zero)) x at = at
left (CopyPlace (suc (suc n))) x at = absurd (let both : None ≡ Some x = at in cc)
left (HeaderPlace s) x at = absurd (let both : None ≡ Some x = at in cc)
left (PreparePlace s) x at = at
left (ReplyPlace zero) x at = at
left (ReplyPlace (suc k)) x at = at
left (BlockPlace a) x at = at

hurt_reply : (k : ℕ) → hurt (ReplyPlace k) ≡ target (ReplyPlace k)
hurt_reply zero = refl
hurt_reply (suc k) = refl

pooled : (place : Place) (x : AnyUnit) → InHistoryPools (log ∷ []) place x → IsOurs x
pooled place x at = elim at [
  | inl (inl (inl here)) ↦ (ours place x here).0
  | inl (inl (inr none)) ↦ absurd none
  | inl (inr none) ↦ absurd none
  | inr none ↦ absurd none
]

abbrev hurt_agreed : Agree hurt c
hurt_agreed = record { first = 0; second = 1; apart = omega arith; inside = omega arith; at_first = refl; at_second = refl }

may : MayStart log [] hurt
may = record {
  settled_is = record { older = []; newest = refl; writes = λ place x none. none };
  chance = record { pooled = λ place x at. inl (inl (inl (left place x at))); distinct = λ place other x y one two. distinct_of IsOurs told x y (pooled place x one) (pooled other y two) };
  copies = inr (record { content = c; four = λ n below. refl; agreed = hurt_agreed });
}

hurt_shows : ShowsRest shape hurt checkpoint stored
hurt_shows = record {
  agreed = hurt_agreed;
  only = λ n d inside at. only n d inside (left (CopyPlace n) (CopyUnit d) at);
  headers = λ s h at. absurd (let both : None ≡ Some (HeaderUnit h) = at in cc);
  prepares = λ s. refl;
  chain = shows.chain;
  replies = λ k r at. shows.replies k r (left (ReplyPlace k) (ReplyUnit r) at);
  shown = λ k s at. let there = shown k s at in (there.0, there.1, hurt_reply k ∙ there.2, there.3, there.4);
  no_more = no_more;
}

hurt_found : IsFound shape hurt copied
hurt_found = rest_found shape hurt checkpoint stored sound names hurt_shows

hurt_places : AreOfPlaces shape hurt
hurt_places place x at = places place x (left place x at)

hurt_holds : Holds shape hurt copied
hurt_holds =
    (clean_start_law shape hurt copied hurt_places hurt_found (λ n d at away. clean n d (left (CopyPlace n) (CopyUnit d) at) away)).holds

-- ---- it is opened

abbrev raised : Content
raised = record c { checksum = 22; boot = 3 }

abbrev copies : List (ℕ × Units)
copies = (2, put_one (CopyPlace 2) (CopyUnit c)) ∷ (3, put_one (CopyPlace 3) (CopyUnit c)) ∷ []

stored_named : (k : ℕ) (r : Message) → stored k ≡ Some r → slice_index (6 ∷ []) k ≡ r.header.checksum
stored_named zero r at = let both : Some reply ≡ Some r = at in let same : reply ≡ r = cc in ap (λ (m : Message). m.header.checksum) same
stored_named (suc k) r at = absurd (let both : None ≡ Some r = at in cc)

unstored : (k : ℕ) → stored k ≡ None → slice_index (6 ∷ []) k ≡ 0
unstored zero none = absurd (let both : Some reply ≡ None = none in cc)
unstored (suc k) none = refl

boots : MayBoot copied raised
boots = may_raise copied 22 5 (6 ∷ []) refl (omega arith)
    (record { pin_from = (omega arith, omega arith); pin_to = omega arith; checksum = refl; answered = (omega arith, omega arith); stored = λ k r at low. stored_named k r at; unstored = unstored; spare = spare })

opening : IsOpening shape hurt copied (λ s. reserved) (all_reserved ∷ []) copies raised
opening = record {
  may_mend = record {
    rests = anew_law shape hurt copied hurt_holds;
    quiet = λ place wet. absurd (let no_unit : false ≡ true = wet in cc);
    tells = λ s. record { from = inr (inr (record { op = refl; checkpoint = refl; boot = refl })); tail = λ p none here. absurd none };
    puts_headers = ((λ place y at. let put = puts_reserved place y at in (put.0, put.2, reserved_is place y at)), tt);
    agreed = hurt_agreed;
    puts_copies = (put_one_law (CopyPlace 2) (CopyUnit c), (λ e. omega arith), (λ e. omega arith), (put_one_law (CopyPlace 3) (CopyUnit c), (λ e. omega arith), (λ e. omega arith), tt));
    each_slot = λ s below. inr (inl (HeaderUnit reserved, refl));
    each_copy = λ k below. each k below;
  };
  may_boot = boots;
}
  where
    reserved_is : (place : Place) (y : AnyUnit) → all_reserved place ≡ Some y → y ≡ HeaderUnit reserved
    reserved_is (HeaderPlace s) y at = let both : Some (HeaderUnit reserved) ≡ Some y = at in cc
    reserved_is (CopyPlace n) y at = absurd (let both : None ≡ Some y = at in cc)
    reserved_is (PreparePlace s) y at = absurd (let both : None ≡ Some y = at in cc)
    reserved_is (ReplyPlace k) y at = absurd (let both : None ≡ Some y = at in cc)
    reserved_is (BlockPlace a) y at = absurd (let both : None ≡ Some y = at in cc)

    each : (k : ℕ) → k < 4 → (hurt (CopyPlace k) ≡ Some (CopyUnit c)) ⊎ IsNumber k copies
    each zero below = inl refl
    each (suc zero) below = inl refl
    each (suc (suc zero)) below = inr (inl refl)
    each (suc (suc (suc zero))) below = inr (inr (inl refl))
    each (suc (suc (suc (suc k)))) below = absurd (omega (arith, below))

abbrev next : UnitLog
next = opened raised hurt (all_reserved ∷ []) copies (copies_of raised)

reopened : IsReopened shape [] log hurt copied next (booted copied raised)
reopened = let law = open_lived_law shape log [] hurt copied lived may hurt_places hurt_found (λ s.
    reserved) (all_reserved ∷ []) copies raised (copies_of raised) opening in
    let safe = (rests_law shape next (booted copied raised) law.1).0 in record {
      start = may;
      places = hurt_places;
      finds = hurt_found;
      had = found_since_law shape log [] hurt copied lived may hurt_found;
      table = λ s. reserved;
      headers = all_reserved ∷ [];
      copies = copies;
      content = raised;
      puts = copies_of raised;
      opening = opening;
      steps = [];
      safe = safe;
      next_is = refl;
      lived = (law.3 [] safe).lived;
      rests = law.1;
    }

pub copy_sample_law : CopySampleLaw
unfolding copy
copy_sample_law = record {
  shape = shape;
  source = source;
  view = view;
  target = target;
  copied = copied;
  copy = copy;
  found = found;
  whole = whole;
  clean = clean;
  stands = stands;
  older = older;
  some = (refl, refl, refl, refl);
  begins = begins;
  hurt = hurt;
  lost = (refl, refl, λ s. refl);
  next = next;
  raised = booted copied raised;
  opened = reopened;
  goes_on = (refl, refl, refl);
}
