-- The sessions at the superblock's head, as a table: whose replies are known, and the walk over their places.
use Rattle.std.{proofs.{Common.{◌≡◌, Bool, true, false, ℕ, zero, suc, ◌+◌, ◌-◌, ◌==◌, ◌<◌, ◌≤◌, if◌then◌else◌, List, [], ◌∷◌, length, get_or, map, take, drop, Option, Some, None, sym, ◌∙◌, ap, subst, arith, inl, inr, length-drop, length-take}, lemmas.List.{get_or-drop, get_or_past, length-map}, lemmas.List.Elements.{All-get_or}, lemmas.Bool.{cases_eq, cases_lt}, lemmas.Slice.Eq.{bytes_eq-Decides}, lemmas.Option.{same_Some, slice_get-get_or, slice_get-map, slice_get_within}}, specs.{List.{slice_get}, Prelude.{Result, Ok, Err, OnOk, option_map, slice_index}, Str.{bytes_eq}}}
use Rattle.{df_disk.specs.Told.{Told}, df_journal.specs.{Scan.{Scan}, Shows.{ShowsHeader, ShowsPrepare}}, df_opening.specs.Below.{shape}}
use Rattle.df_format.{specs.{declared.kind.Kind.{Kind}, declared.kind.Kind.TheVariants.{Block as AsBlock, Prepare, Reply, Trailer}, declared.superblock.SuperFields.{SuperFields}, Spelling.{IsCheck, no_checksum}, SuperRules.{IsUsable}}, proofs.Laws.{no_check}}
use Rattle.df_sessions.specs.{declared.session.Session.{Session}, Requests.{session_of, sessions_of}, Table.{Table}}
use Rattle.df_theory.{specs.{Sessions.{sessions_after}, Units.{AnyUnit, BlockPlace, HeaderPlace, Message, Parts, Place, PreparePlace, ReplyPlace, Units}}, proofs.Laws.{known_one}}
use Rattle.df_theory.specs.Units as units
use Rattle.df_units.{specs.Meaning.{number_of}, proofs.Laws.{no_number, one_number}}
use Rattle.df_mirror.{specs.{declared.ending.Ending.{Ending}, declared.superblock.Superblock.{Superblock}, Known.{AreShown, ComesBefore, HasSessions, IsKnownAt, IsRecordedReply, IsShownAs}, Mends.{AreOfKind}, Outside.{Outside, Tell}, Walks.{HasHead, HasLater, Mended, ShowsKnownReplies, content_of_superblock, superblock_units}}, proofs.{Frames.{other_place}, Logs.{prepares_shown}, Named.{ring_there}, Ones.{one_trailer, trailer_there}, Orders.{grid_there}, Recorded.{HasNewer, MendsRecorded, recorded_sum}, Referenced.{shown_there}, Turns.{none_mended, of_one}}}

-- what stands among the first ones, this many, stands there
front_get : (n : ℕ) (ss : List units.Session) (k : ℕ) (s : units.Session) → slice_get (take n ss) k ≡ Some s → slice_get ss k ≡ Some s
front_get zero ss k s at = absurd (let none : None ≡ Some s = at in cc)
front_get (suc n) [] k s at = absurd (let none : None ≡ Some s = at in cc)
front_get (suc n) (x ∷ ss) zero s at = at
front_get (suc n) (x ∷ ss) (suc k) s at = front_get n ss k s at

-- an image has one list of sessions at the head
one_head : (b : Superblock) (image : Units) (ss others : List units.Session) → HasSessions (shape b.file) image (content_of_superblock b) ss
    → HasSessions (shape b.file) image (content_of_superblock b) others → ss ≡ others
one_head b image ss others one two = let parts = one_trailer (shape b.file) image (content_of_superblock b) one.says two.says in
    let named = known_one b.file.layout.slots image (b.content.op
    + 1) (content_of_superblock b).pin_checksum one.named two.named one.known two.known (omega (arith, one.count, two.count)) in
    one.sessions_are ∙ ap (λ (p : Parts). sessions_after p.sessions one.named) parts
    ∙ ap (λ (l : List Message). sessions_after two.says.parts.sessions l) named ∙ sym two.sessions_are

-- ---- where replies alone differ

-- the images show the same but for one reply
abbrev pub AreAlike : ℕ → Units → Units → Type 0
AreAlike k image other = (place : Place) → (place ≡ ReplyPlace k → ⊥) → other place ≡ image place

module _ (b : Superblock) (k : ℕ) (image other : Units) (alike : AreAlike k image other) where
  same_slot : (s : ℕ) → other (PreparePlace s) ≡ image (PreparePlace s)
  same_slot s = alike (PreparePlace s) (λ (same : PreparePlace s ≡ ReplyPlace k). cc)

  sessions_there : (ss : List units.Session)
      → HasSessions (shape b.file) image (content_of_superblock b) ss → HasSessions (shape b.file) other (content_of_superblock b) ss
  sessions_there ss has = record {
    says = trailer_there (shape b.file) image other (content_of_superblock b) has.says (λ a x at.
        alike (BlockPlace a) (λ (same : BlockPlace a ≡ ReplyPlace k). cc));
    named = has.named;
    known = ring_there b.file.layout.slots
        image other (b.content.op + 1) (content_of_superblock b).pin_checksum has.named has.known (λ o low high. same_slot _);
    count = has.count;
    sessions_are = has.sessions_are;
  }

  head_there : (slots : Scan) (table : Table) → HasHead b image slots table → HasHead b other slots table
  head_there slots table head = record {
    grid = grid_there b image other (λ a. alike (BlockPlace a) (λ (same : BlockPlace a ≡ ReplyPlace k). cc)) head.grid;
    tells = record {
      table = head.tells.table;
      shows = record {
        each = λ s seen at. let it = head.tells.shows.each s seen at in record {
          header = rw (sym (alike (HeaderPlace s) (λ (same : HeaderPlace s ≡ ReplyPlace k). cc))) at it.header;
          prepare = rw (sym (same_slot s)) at it.prepare;
        };
        no_header = λ s past. alike (HeaderPlace s) (λ (same : HeaderPlace s ≡ ReplyPlace k). cc) ∙ head.tells.shows.no_header s past;
        no_prepare = λ s past. same_slot s ∙ head.tells.shows.no_prepare s past;
      };
    };
    sessions = head.sessions;
    has = sessions_there head.sessions head.has;
    places = head.places;
    table_is = head.table_is;
  }

  -- another reply that is recorded is so in either
  recorded_there : (j sum : ℕ) → (j ≡ k → ⊥) → IsRecordedReply (shape b.file) image (content_of_superblock b) j sum
      → IsRecordedReply (shape b.file) other (content_of_superblock b) j sum
  recorded_there j sum apart is = record {
    sessions = is.sessions;
    has = sessions_there is.sessions is.has;
    session = is.session;
    at = is.at;
    sum_is = is.sum_is;
    some = is.some;
    no_reply = λ r shown boot. is.no_reply r (sym (alike (ReplyPlace j) (λ (same : ReplyPlace j ≡ ReplyPlace k). apart (cc))) ∙ shown) boot;
    no_prepare = λ s p shown boot above client. is.no_prepare s p (sym (same_slot s) ∙ shown) boot above client;
  }

-- ---- which are recorded

module _ (b : Superblock) (image : Units) (slots : Scan) (table : Table) (k : ℕ) (head : HasHead b image slots table) where
  module _ (s : Session) (at : slice_get table.sessions k ≡ Some s) where
    session_there : slice_get head.sessions k ≡ Some (session_of s)
    session_there = let here : slice_get (sessions_of table.sessions) k ≡ Some (session_of s) =
        slice_get-map session_of table.sessions k ∙ ap (option_map session_of) at in front_get
        b.file.layout.clients head.sessions k (session_of s) (ap (λ (l : List units.Session). slice_get l k) (sym head.table_is) ∙ here)

    -- it is known, where nothing newer is shown
    pub is_recorded : (check : List ℕ)
        → slice_get b.content.reply_checksums k ≡ Some check → IsCheck check → (check ≡ no_checksum → ⊥) → (HasLater b image s.client → ⊥)
        → (HasNewer b image k → ⊥) → IsRecordedReply (shape b.file) image (content_of_superblock b) k (number_of check)
    is_recorded check sum fits some no_later no_newer = record {
      sessions = head.sessions;
      has = head.has;
      session = session_of s;
      at = session_there;
      sum_is = sym (recorded_sum b k check sum);
      some = elim (cases_lt 0 (number_of check)) [ inl above ↦ above | inr none ↦ absurd (some (one_number check no_checksum fits no_check (omega (arith, none, no_number)))) ];
      no_reply = λ r shown boot. elim (cases_lt
          (content_of_superblock b).replies r.header.op) [ inl above ↦ absurd (no_newer (r, shown, boot, above)) | inr within ↦ within ];
      no_prepare = λ n p shown boot above client. no_later (n, p, shown, record { boot = boot; above = above; of_client = client });
    }

    -- it isn't, where a later request of its client is shown
    pub not_behind : HasLater b image s.client → (sum : ℕ) → IsRecordedReply (shape b.file) image (content_of_superblock b) k sum → ⊥
    not_behind later sum is = let both : Some is.session ≡ Some (session_of s) = sym is.at
        ∙ ap (λ (l : List units.Session). slice_get l k) (one_head b image is.sessions head.sessions is.has head.has) ∙ session_there in
        let session : is.session ≡ session_of s = same_Some _ _ both in
        is.no_prepare later.0 later.1 later.2 later.3.boot later.3.above (later.3.of_client ∙ ap (λ (x : units.Session). x.client) (sym session))

  -- nor where none is recorded
  pub not_named : (check : List ℕ) → slice_get b.content.reply_checksums k ≡ Some check
      → check ≡ no_checksum → (sum : ℕ) → IsRecordedReply (shape b.file) image (content_of_superblock b) k sum → ⊥
  not_named check sum none n is = let zero : number_of check ≡ 0 = ap number_of none ∙ no_number in
      omega (arith, is.some, is.sum_is ∙ recorded_sum b k check sum, zero)

-- ---- one place further

module _ (b : Superblock) (slots : Scan) (table : Table) (k : ℕ)
    (t o : Told) (old new : Outside) (tell : Tell t o old) (shows : ShowsKnownReplies b (superblock_units b t.shown) slots table k) where
  -- no reply is known there
  pub reply_none : new.first ≡ old.first → new.written ≡ old.written
      → ((sum : ℕ) → IsRecordedReply (shape b.file) (superblock_units b t.shown) (content_of_superblock b) k sum → ⊥)
      → Mended b (AreOfKind Reply) t o old new (Ok 0) (λ image. ShowsKnownReplies b image slots table (k + 1))
  reply_none same silent none =
      none_mended b (AreOfKind Reply) tt t o old new tell same silent (λ image. ShowsKnownReplies b image slots table (k + 1)) (record {
        has = shows.has;
        shown = λ j sum below known. elim (cases_eq j k) [
          | inl here ↦ absurd (none sum (rw here at known))
          | inr other ↦ shows.shown j sum (omega (arith, below, other)) known
        ];
      })

  module _ (check : List ℕ) (sum_at : slice_get b.content.reply_checksums k ≡ Some check) (known : (HasNewer b (superblock_units b t.shown)
      k → ⊥) → IsRecordedReply (shape b.file) (superblock_units b t.shown) (content_of_superblock b) k (number_of check)) where
    -- the known blocks, the prepares, and the replies at lower places are shown
    first : (kind : Kind) (at : Place) (sum : ℕ) → ComesBefore kind Reply at (ReplyPlace k) → IsKnownAt (shape b.file)
        (superblock_units b t.shown) (content_of_superblock b) kind at sum → IsShownAs (superblock_units b t.shown) kind at sum
    first Trailer at sum comes is = shows.has.grid.trailer at sum is
    first AsBlock at sum comes is = shows.has.grid.blocks at sum is
    first Prepare at sum comes is = prepares_shown b (superblock_units b t.shown)
        (record { named = shows.has.has.named; known = shows.has.has.known; count = shows.has.has.count }) at sum is
    first Reply (ReplyPlace j) sum comes is = let less : j < k = comes in shows.shown j sum less is
    first kind at sum comes is = absurd is

    one_more : (answer : Result ℕ Ending) → MendsRecorded b k check t o old new answer
        → (u : Told) → new.first ≡ Some u → OnOk answer (ShowsKnownReplies b (superblock_units b u.shown) slots table (k + 1))
    one_more (Err e) mends u is = tt
    one_more (Ok count) mends u is =
        let alike : AreAlike k (superblock_units b t.shown) (superblock_units b u.shown) =
        λ place apart. other_place b.file (content_of_superblock b) t o u new.first old.written new.written
        tell.whole is place Reply (ReplyPlace k) count (mends.answers known first shows.has.grid.passes) (λ same. apart (sym same)) in
        let back : AreAlike k (superblock_units b u.shown) (superblock_units b t.shown) = λ place apart. sym (alike place apart) in record {
          has = head_there b k (superblock_units b t.shown) (superblock_units b u.shown) alike slots table shows.has;
          shown = λ j sum below recorded. elim (cases_eq j k) [
            | inl here ↦ elim (mends.shown u is) [
              | inl newer ↦ absurd (let most = recorded.no_reply newer.0
                  (ap (λ (n : ℕ). superblock_units b u.shown (ReplyPlace n)) here ∙ newer.1) newer.2 in omega (arith, most, newer.3))
              | inr seen ↦ let same : number_of check ≡ sum = sym (recorded_sum b k check sum_at)
                  ∙ ap (λ (n : ℕ). slice_index (content_of_superblock b).reply_checksums n) (sym here) ∙ sym recorded.sum_is in
                  rw (sym here) at (rw same at seen)
            ]
            | inr other ↦ shown_there (superblock_units b t.shown) (superblock_units b u.shown)
                Reply (ReplyPlace j) sum (alike (ReplyPlace j) (λ (same : ReplyPlace j ≡ ReplyPlace k). other (cc)))
                (shows.shown j sum (omega (arith, below, other))
                (recorded_there b k (superblock_units b u.shown) (superblock_units b t.shown) back j sum other recorded))
          ];
        }

    pub reply_mended : (answer : Result ℕ Ending) → MendsRecorded b k check t o old new answer
        → Mended b (AreOfKind Reply) t o old new answer (λ image. ShowsKnownReplies b image slots table (k + 1))
    reply_mended answer mends = of_one b Reply (ReplyPlace k) t o old new answer (λ image.
        ShowsKnownReplies b image slots table (k + 1)) (mends.answers known first shows.has.grid.passes) (one_more answer mends)

-- ---- all of them

pub none_yet : (b : Superblock) (image : Units) (slots : Scan) (table : Table)
    → HasHead b image slots table → ShowsKnownReplies b image slots table 0
none_yet b image slots table head = record { has = head; shown = λ k sum below known. absurd (omega (arith, below)) }

-- past the sessions that a file may have none is recorded
abbrev checks_of : Superblock → List (List ℕ)
checks_of b = b.content.reply_checksums

none_past : (b : Superblock) (k : ℕ) → b.content.clients ≤ k → slice_index (content_of_superblock b).reply_checksums k ≡ 0
none_past b k past = elim (cases_lt k (length (checks_of b))) [
  | inl within ↦
      let at : slice_get (checks_of b) k ≡ Some (get_or (checks_of b) k no_checksum) = slice_get-get_or (checks_of b) k no_checksum within in
      let place : b.content.clients + (k - b.content.clients) ≡ k = omega (arith, past) in
      let here : get_or (drop b.content.clients (checks_of b)) (k - b.content.clients) no_checksum ≡ no_checksum =
      All-get_or (λ (check : List ℕ). check ≡ no_checksum) (drop b.content.clients (checks_of b))
      (k - b.content.clients) no_checksum (omega (arith, within, past, length-drop b.content.clients (checks_of b))) b.spare in
      let none : get_or (checks_of b) k no_checksum ≡ no_checksum = ap (λ (n : ℕ). get_or (checks_of b) n no_checksum) (sym place)
      ∙ sym (get_or-drop b.content.clients (checks_of b) (k - b.content.clients) no_checksum) ∙ here in
      recorded_sum b k (get_or (checks_of b) k no_checksum) at ∙ ap number_of none ∙ no_number
  | inr beyond ↦ ap (λ (v : ℕ). slice_index (if v == 2 then map number_of (checks_of b) else []) k) b.second
      ∙ get_or_past (map number_of (checks_of b)) k 0 (omega (arith, beyond, length-map (checks_of b) number_of))
]

pub all_replies : (b : Superblock) (image : Units) (slots : Scan) (table : Table)
    → ShowsKnownReplies b image slots table (length table.sessions) → AreShown (shape b.file) image (content_of_superblock b) Reply
all_replies b image slots table shows place sum known = by place known
  where
    among : (k : ℕ) → IsRecordedReply (shape b.file) image (content_of_superblock b) k sum → k < length table.sessions
    among k is = elim (cases_lt k (length table.sessions)) [
      | inl within ↦ within
      | inr past ↦ let head : k < length shows.has.sessions =
          rw (one_head b image is.sessions shows.has.sessions is.has shows.has.has) at (slice_get_within is.sessions k is.session is.at) in
          let size : length table.sessions ≡ length (take b.file.layout.clients shows.has.sessions) =
          sym (length-map table.sessions session_of) ∙ ap length shows.has.table_is in let clients : b.content.clients ≤ k =
          omega (arith, past, head, size, length-take b.file.layout.clients shows.has.sessions, b.fields.clients) in
          absurd (omega (arith, is.some, is.sum_is, none_past b k clients))
    ]

    by : (place : Place) → IsKnownAt (shape b.file) image (content_of_superblock b) Reply place sum → IsShownAs image Reply place sum
    by (ReplyPlace k) is = shows.shown k sum (among k is) is
    by place is = absurd is

-- ---- what is recorded at a place

module _ (f g : SuperFields) (k : ℕ) (d : List ℕ) (same : f ≡ g) (below : k < 64) (usable : IsUsable g) where
  within : k < length g.reply_checksums
  within = omega (arith, below, usable.fits.reply_checksums.size)

  pub sum_there : slice_get g.reply_checksums k ≡ Some (get_or f.reply_checksums k d)
  sum_there = subst (λ (x : SuperFields).
      slice_get g.reply_checksums k ≡ Some (get_or x.reply_checksums k d)) (sym same) (slice_get-get_or g.reply_checksums k d within)

  pub check_there : IsCheck (get_or f.reply_checksums k d)
  check_there = subst (λ (x : SuperFields).
      IsCheck (get_or x.reply_checksums k d)) (sym same) (All-get_or IsCheck g.reply_checksums k d within usable.fits.reply_checksums.each)

-- where a checksum is recorded of a session, and no later request of its client is shown, its reply is mended so
pub reply_recorded : (b : Superblock) (slots : Scan) (table : Table) (k : ℕ) (t o : Told) (old new : Outside) (tell : Tell t o old)
    (shows : ShowsKnownReplies b (superblock_units b t.shown) slots table k) (s : Session) → slice_get table.sessions k ≡ Some s
    → (f : SuperFields) → f ≡ b.content → IsUsable b.content → k < b.file.layout.clients → (d : List ℕ) (none : Bool)
    → none ≡ bytes_eq (get_or f.reply_checksums k d) no_checksum → none ≡ false → (HasLater b (superblock_units b t.shown) s.client → ⊥)
    → (answer : Result ℕ Ending) → MendsRecorded b k (get_or f.reply_checksums k d) t o old new answer
    → Mended b (AreOfKind Reply) t o old new answer (λ image. ShowsKnownReplies b image slots table (k + 1))
reply_recorded b slots table k t o old new tell shows s at f same usable below d none test some no_later answer mends =
    let few : k < 64 = omega (arith, below, b.file.layout.clients_within) in let check = get_or f.reply_checksums k d in
    let sum = sum_there f b.content k d same few usable in let not_none : check ≡ no_checksum → ⊥ = λ zeros. let clash : true ≡ false = sym
    (test ∙ (bytes_eq-Decides check no_checksum).1 zeros) ∙ some in cc in reply_mended b slots table k t o old new tell shows check sum
    (is_recorded b (superblock_units b t.shown) slots table k shows.has s at check sum (check_there f b.content k d same few usable)
    not_none no_later) answer mends

-- there is a session at each place
pub no_session : (xs : List Session) (k : ℕ) → k < length xs → slice_get xs k ≡ None → ⊥
no_session [] k within none = omega (arith, within)
no_session (x ∷ xs) zero within none = cc
no_session (x ∷ xs) (suc k) within none = no_session xs k (omega (arith, within)) none
