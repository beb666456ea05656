-- A known unit that is shown is shown at every moment of the mends of others.
use Rattle.std.{proofs.Common.{◌≡◌, ℕ, ◌+◌, ◌-◌, ◌%◌, ◌<◌, ◌≤◌, ◌||◌, Bool, List, [], ◌∷◌, ◌++◌, length, Option, Some, refl, sym, ◌∙◌, ap, subst, arith, inl, inr, length-append}, specs.Prelude.{slice_index}}
use Rattle.df_base.{specs.{Image.{Image, IsImage}, Log.{Event, IsLeft, Log, Sync, Write, loose}, Moments.{EachMoment, Extends}}, proofs.Laws.{extends_on, extends_self, from_before, started, written_is_image}}
use Rattle.{df_disk.{specs.Told.{IsHonest, Told, did}, proofs.Laws.{honest_did}}, df_damage.specs.Anew.{IsStill, told_after}}
use Rattle.df_format.specs.{declared.kind.Kind.{Kind}, declared.kind.Kind.TheVariants.{Block as AsBlock, Prepare, Reply, Reserved, Trailer}}
use Rattle.df_theory.{specs.{Opens.{AreKnown, AreLinks, Arrives, ReadsTo}, Shape.{Shape, slots}, Trailer.{InChain, IsCount, Links}, Units.{AnyUnit, Block, BlockPlace, BlockUnit, Content, CopyPlace, HeaderPlace, Message, Place, PreparePlace, PrepareUnit, ReplyPlace, Units, is_some, or_else}}, proofs.Laws.{arrives_more, links_more, link_of}}
use Rattle.{df_units.{specs.{Bytes.{first_at}, Wanted.{checksum_of}}, proofs.Laws.{is_format}}, df_opening.specs.Below.{DataFile, shape}}
use Rattle.df_mirror.{specs.{Known.{IsKnownAt, IsNamedPrepare, IsShownAs, IsSparePlace}, Laws.{KnownStays, LeavesKnownShown}, Mends.{AreMends, IsMend, Mend, mirrored_events, units_shown}}, proofs.{Chains.{arrives_there, shown_block}, Frames.{put_elsewhere, stays}, Ones.{trailer_there}, OpenedPlaces.{known_reply}, Referenced.{shown_there}}}

-- ---- each block of a chain is known

module _ (sh : Shape) (image : Units) (c : Content) (count : ℕ) (counts : IsCount (sh.layout.block_size - 256) c.trailer_size count) where
  -- it is wanted, and shown
  abbrev pub IsThere : ℕ → ℕ → Type 0
  IsThere a k = ReadsTo sh image c a k × IsShownAs image Trailer (BlockPlace a) k

  there : (front : List (ℕ × Block)) (d : ℕ × Block) (a k : ℕ) → Arrives image front c.trailer c.trailer_checksum a k → AreLinks
      sh c count front → length front < count → image (BlockPlace a) ≡ Some (BlockUnit d.1) → d.1.checksum ≡ k → d.1.kind ≡ 0 → IsThere a k
  there front d a k arrives are less shown sum kind = (record { count = count; read = front; counts = counts; arrives = arrives; links = are; more = less }, shown_block image a k (d.1, shown, sum, kind))

  here : (d : ℕ × Block) (a k f : ℕ) (x : Block) → IsThere a k → f ≡ d.0 → x ≡ d.1 → d.0 ≡ a → d.1.checksum ≡ k → IsThere f x.checksum
  here d a k f x is one two place sum =
      subst (λ (n : ℕ). IsThere n x.checksum) (sym (one ∙ place)) (rw (sym (ap (λ (b : Block). b.checksum) two ∙ sum)) at is)

  pub read_known : (front ys : List (ℕ × Block)) (a k e m i : ℕ) → Arrives image front c.trailer c.trailer_checksum a k → AreLinks sh c count front → count ≡ length front + i → Arrives image ys a k e m → AreLinks sh c i ys → (f : ℕ) (x : Block) → InChain f x ys → IsThere f x.checksum
  read_known front [] a k e m i arrives are size rest links f x at = absurd at
  read_known front (d ∷ ds) a k e m i arrives are size rest links f x at = elim at [
    | inl first ↦
        here d a k f x (there front d a k arrives are (omega (arith, size, links.1)) rest.3 rest.2 rest.4) first.0 first.1 rest.1 rest.2
    | inr later ↦
        read_known (front ++ d ∷ []) ds d.1.before d.1.before_checksum e m links.0 (arrives_more image front d c.trailer c.trailer_checksum
        a k arrives rest.0 rest.1 rest.2 rest.4 rest.3) (links_more sh c count links.0 front d are (omega (arith, size, links.1)) links.2)
        (omega (arith, size, links.1, length-append front (d ∷ []))) rest.5 links.3 f x later
  ]

  pub chain_known : (front ds : List (ℕ × Block)) (a k : ℕ) → Arrives image front c.trailer c.trailer_checksum a k
      → AreLinks sh c count front → count ≡ length front + length ds → Links (sh.layout.block_size - 256) c ds a k
      → ((e : ℕ) (x : Block) → InChain e x ds → (e ≤ sh.layout.blocks) × (image (BlockPlace e) ≡ Some (BlockUnit x)))
      → (f : ℕ) (x : Block) → InChain f x ds → IsThere f x.checksum
  chain_known front [] a k arrives are size links each f x at = absurd at
  chain_known front (d ∷ ds) a k arrives are size links each f x at = let shown : image (BlockPlace a) ≡ Some (BlockUnit d.1) =
      ap (λ (n : ℕ). image (BlockPlace n)) (sym links.1) ∙ (each d.0 d.1 (inl (refl, refl))).1 in elim at [
        | inl first ↦ here d a k f x (there front d a k arrives are (omega (arith, size)) shown links.2 links.6) first.0 first.1 links.1 links.2
        | inr later ↦ chain_known (front ++ d ∷ []) ds d.1.before
            d.1.before_checksum (arrives_more image front d c.trailer c.trailer_checksum a k arrives links.0 links.1 links.2 links.6 shown)
            (links_more sh c count (length ds) front d are (omega (arith, size)) (link_of sh c d ds a k links (λ g z at_rest. (each g z (inr
            at_rest)).0))) (omega (arith, size, length-append front (d ∷ []))) links.7 (λ g z at_rest. each g z (inr at_rest)) f x later
      ]

-- ---- what is known stays known

-- a reply is known by the superblock's checksum of it, and all else by what is shown
abbrev pub Keeps : Shape → Units → Content → Kind → Place → ℕ → Type 0
Keeps sh image c Reply (ReplyPlace k) sum = sum ≡ slice_index c.reply_checksums k
Keeps sh image c kind place sum = IsKnownAt sh image c kind place sum

keeps_known : (sh : Shape) (image : Units) (c : Content) (kind : Kind) (place : Place) (sum : ℕ)
    → IsKnownAt sh image c kind place sum → Keeps sh image c kind place sum
keeps_known sh image c Trailer place sum known = known
keeps_known sh image c AsBlock place sum known = known
keeps_known sh image c Prepare place sum known = known
keeps_known sh image c Reserved place sum known = known
keeps_known sh image c Reply (ReplyPlace k) sum known = known.sum_is
keeps_known sh image c Reply (CopyPlace n) sum known = known
keeps_known sh image c Reply (HeaderPlace s) sum known = known
keeps_known sh image c Reply (PreparePlace s) sum known = known
keeps_known sh image c Reply (BlockPlace a) sum known = known

module _ (sh : Shape) (image other : Units)
    (c : Content) (at : Place) (spare : IsSparePlace sh image c at) (same : (p : Place) → (p ≡ at → ⊥) → other p ≡ image p) where
  block_stays : (count : ℕ) (counts : IsCount (sh.layout.block_size - 256) c.trailer_size count) (e : ℕ) (x : Block)
      → IsThere sh image c count counts e x.checksum → other (BlockPlace e) ≡ image (BlockPlace e)
  block_stays count counts e x is = same (BlockPlace e) (spare Trailer (BlockPlace e) x.checksum is.0 is.1)

  named_stays : (op : ℕ) (ps : List Message) → c.op < op
      → op + length ps ≡ c.pin + 1 → AreKnown (slots sh) image op c.pin_checksum ps → AreKnown (slots sh) other op c.pin_checksum ps
  named_stays op [] above count known = tt
  named_stays op (p ∷ ps) above count known = let named : IsNamedPrepare sh image c (op % slots sh) p.header.checksum =
      record { op = op; above = above; slot_is = refl; later = ps; known = known.2; count = omega (arith, count); sum_is = known.1 } in
      let shown : IsShownAs image Prepare (PreparePlace (op % slots sh)) p.header.checksum =
      record { unit = PrepareUnit p; shown = known.0; of_kind = tt; sum_is = refl } in
      (same (PreparePlace (op % slots sh)) (spare Prepare (PreparePlace (op % slots sh)) p.header.checksum named shown) ∙ known.0, known.1, named_stays (op + 1) ps (omega (arith, above)) (omega (arith, count)) known.2)

  pub keeps_on : (kind : Kind) (place : Place) (sum : ℕ) → Keeps sh image c kind place sum → Keeps sh other c kind place sum
  keeps_on Reply (ReplyPlace k) sum is = is
  keeps_on Trailer (BlockPlace a) sum is = let of : ReadsTo sh image c a sum = is in let reads : ReadsTo sh other c a sum = record {
    count = of.count;
    read = of.read;
    counts = of.counts;
    arrives = arrives_there image other of.read c.trailer c.trailer_checksum a sum of.arrives (λ e x inside. block_stays of.count of.counts e x (read_known sh image c of.count of.counts [] of.read c.trailer c.trailer_checksum a sum of.count (refl, refl) tt (omega arith) of.arrives of.links e x inside));
    links = of.links;
    more = of.more;
  } in reads
  keeps_on AsBlock (BlockPlace a) sum is = record {
    says = trailer_there sh image other c is.says (λ e x inside. block_stays (length is.says.chain) is.says.trailer.count e x
        (chain_known sh image c (length is.says.chain) is.says.trailer.count [] is.says.chain c.trailer c.trailer_checksum (refl, refl) tt (omega arith) is.says.trailer.links (λ g z at_chain. (is.says.trailer.inside g z at_chain, is.says.shown g z at_chain)) e x inside));
    reference = is.reference;
  }
  keeps_on Prepare (PreparePlace s) sum is = let of : IsNamedPrepare sh image c s sum = is in
      let named : IsNamedPrepare sh other c s sum = record { op = of.op; above = of.above; slot_is = of.slot_is; later = of.later; known = named_stays (of.op + 1) of.later (omega (arith, of.above)) (omega (arith, of.count)) of.known; count = of.count; sum_is = of.sum_is } in
      named
  keeps_on Trailer (CopyPlace n) sum is = absurd is
  keeps_on Trailer (HeaderPlace s) sum is = absurd is
  keeps_on Trailer (PreparePlace s) sum is = absurd is
  keeps_on Trailer (ReplyPlace k) sum is = absurd is
  keeps_on AsBlock (CopyPlace n) sum is = absurd is
  keeps_on AsBlock (HeaderPlace s) sum is = absurd is
  keeps_on AsBlock (PreparePlace s) sum is = absurd is
  keeps_on AsBlock (ReplyPlace k) sum is = absurd is
  keeps_on Prepare (CopyPlace n) sum is = absurd is
  keeps_on Prepare (HeaderPlace s) sum is = absurd is
  keeps_on Prepare (BlockPlace a) sum is = absurd is
  keeps_on Prepare (ReplyPlace k) sum is = absurd is
  keeps_on Reply (CopyPlace n) sum is = absurd is
  keeps_on Reply (HeaderPlace s) sum is = absurd is
  keeps_on Reply (PreparePlace s) sum is = absurd is
  keeps_on Reply (BlockPlace a) sum is = absurd is
  keeps_on Reserved place sum is = absurd is

-- ---- a mend

module _ (file : DataFile) (c : Content)
    (second : Image) (v : Told) (m : Mend) (honest : IsHonest v) (whole : IsImage v.shown) (is : IsMend file c v.shown second m) where
  abbrev W : Told
  W = did (Write (first_at file.layout m.place) m.bytes) v

  pub same_after : (p : Place) → (p ≡ m.place → ⊥) → units_shown file (did Sync W).shown p ≡ units_shown file v.shown p
  same_after p other = stays file c second v (m ∷ []) p whole (is, tt) ((λ same. other (sym same)), tt)

  -- within it a stop leaves each other place
  pub left_within : IsStill v.log
      → (left : Image) → IsLeft W.log left → (p : Place) → (p ≡ m.place → ⊥) → units_shown file left p ≡ units_shown file v.shown p
  left_within still left is_left p other = let none = put_elsewhere m.place p m.unit (λ same. other (sym same)) in
      let touches = is.puts.touches p ∙ ap (λ (o : Option AnyUnit). is_some o) none in
      let shows = (honest_did (Write (first_at file.layout m.place) m.bytes) v honest).shows in
      (is_format file.layout file.cluster).local left W.shown p (λ sector inside.
      is_left.kept sector (ap (λ (b : Bool). b || loose v.log sector) ((is_format file.layout file.cluster).apart
      (first_at file.layout m.place) m.bytes p sector touches inside) ∙ still sector) ∙ sym (shows sector))
      ∙ is.puts.shows v.shown p whole ∙ ap (λ (o : Option AnyUnit). or_else o (units_shown file v.shown p)) none

-- nothing is loose: a stop leaves what is shown
left_still : (file : DataFile) (v : Told)
    → IsHonest v → IsStill v.log → (left : Image) → IsLeft v.log left → (p : Place) → units_shown file left p ≡ units_shown file v.shown p
left_still file v honest still left is_left p = (is_format file.layout file.cluster).local left v.shown p (λ sector inside.
    is_left.kept sector (still sector) ∙ sym (honest.shows sector))

pub told_extends : (es : List Event) (t : Told) → Extends (told_after es t).log t.log
told_extends [] t = extends_self t.log
told_extends (e ∷ es) t = extends_on (told_after es (did e t)).log (did e t).log t.log (told_extends es (did e t)) (e ∷ [], refl, refl)

module _ (file : DataFile) (c : Content) (second : Image) (kind : Kind) (place : Place) (sum : ℕ) where
  -- it isn't mended where it stands
  apart : (v : Told) (m : Mend) → IsMend file c v.shown second m → IsShownAs (units_shown file v.shown) kind place sum
      → Keeps (shape file) (units_shown file v.shown) c kind place sum → place ≡ m.place → ⊥
  apart v m is = by kind place
    where
      by : (kind : Kind) (place : Place) → IsShownAs (units_shown file v.shown) kind place sum
          → Keeps (shape file) (units_shown file v.shown) c kind place sum → place ≡ m.place → ⊥
      by Trailer place shown keeps same = is.spare Trailer place sum keeps shown same
      by AsBlock place shown keeps same = is.spare AsBlock place sum keeps shown same
      by Prepare place shown keeps same = is.spare Prepare place sum keeps shown same
      by Reserved place shown keeps same = is.spare Reserved place sum keeps shown same
      by Reply (ReplyPlace k) shown keeps same =
          let known = known_reply (shape file) (units_shown file v.shown) c m.kind k (checksum_of m.unit) (rw (sym same) at is.known) in
          let sums : sum ≡ checksum_of m.unit = keeps ∙ sym known.1.sum_is in is.lacks (rw (sym known.0) at (rw same at (rw sums at shown)))
      by Reply (CopyPlace n) shown keeps same = absurd keeps
      by Reply (HeaderPlace s) shown keeps same = absurd keeps
      by Reply (PreparePlace s) shown keeps same = absurd keeps
      by Reply (BlockPlace a) shown keeps same = absurd keeps

  abbrev Shows : Log → Type 0
  Shows log = (left : Image) → IsLeft log left → IsShownAs (units_shown file left) kind place sum

  through : (later : List Mend) (v : Told) → IsHonest v → IsStill v.log → IsImage v.shown → AreMends file c second v later
      → IsShownAs (units_shown file v.shown) kind place sum → Keeps (shape file) (units_shown file v.shown) c kind place sum
      → EachMoment v.log (told_after (mirrored_events file later) v).log Shows
  through [] v honest still whole are shown keeps = started v.log Shows (λ left is_left. shown_there
      (units_shown file v.shown) (units_shown file left) kind place sum (left_still file v honest still left is_left place) shown)
  through (m ∷ ms) v honest still whole are shown keeps = let write : Event = Write (first_at file.layout m.place) m.bytes in
      let w : Told = did write v in let n : Told = did Sync w in let other : place ≡ m.place → ⊥ = apart v m are.0 shown keeps in
      let rest = through ms n (honest_did Sync w (honest_did write v honest)) (λ sector.
      refl) (written_is_image (first_at file.layout m.place) m.bytes v.shown are.0.puts.piece whole) are.1
      (shown_there (units_shown file v.shown)
      (units_shown file n.shown) kind place sum (same_after file c second v m honest whole are.0 place other) shown)
      (keeps_on (shape file) (units_shown file v.shown)
      (units_shown file n.shown) c m.place are.0.spare (same_after file c second v m honest whole are.0) kind place sum keeps) in
      let exit : Log = (told_after (mirrored_events file ms) n).log in
      from_before write v.log exit Shows (λ left is_left. shown_there (units_shown file v.shown) (units_shown file left)
      kind place sum (left_still file v honest still left is_left place) shown) (told_extends (Sync ∷ mirrored_events file ms) w)
      (from_before Sync w.log exit Shows (λ left is_left. shown_there (units_shown file v.shown) (units_shown file left) kind place sum (left_within file c second v m honest whole are.0 still left is_left place other) shown) (told_extends (mirrored_events file ms) n) rest)

-- ---- after some mends

behind : (file : DataFile) (c : Content) (second : Image) (t : Told) (ms later : List Mend)
    → AreMends file c second t (ms ++ later) → AreMends file c second (told_after (mirrored_events file ms) t) later
behind file c second t [] later are = are
behind file c second t (m ∷ ms) later are = behind file c second (told_after (mirrored_events file (m ∷ [])) t) ms later are.1

reaches : (file : DataFile) (c : Content) (second : Image) (t : Told) (ms later : List Mend)
    → IsHonest t → IsStill t.log → IsImage t.shown → AreMends file c second t (ms ++ later)
    → IsHonest (told_after (mirrored_events file ms) t)
    × IsStill (told_after (mirrored_events file ms) t).log × IsImage (told_after (mirrored_events file ms) t).shown
reaches file c second t [] later honest still whole are = (honest, still, whole)
reaches file c second t (m ∷ ms) later honest still whole are = let write : Event = Write (first_at file.layout m.place) m.bytes in
    reaches file c second (did Sync (did write t)) ms later (honest_did Sync (did write t) (honest_did write t honest)) (λ sector.
    refl) (written_is_image (first_at file.layout m.place) m.bytes t.shown are.0.puts.piece whole) are.1

pub known_stays : KnownStays
known_stays file c second t u ms later honest still whole are is = let n : Told = told_after (mirrored_events file ms) t in
    let at = reaches file c second t ms later honest still whole are in
    let each : EachMoment n.log (told_after (mirrored_events file later) n).log (LeavesKnownShown file c n.shown) =
    λ log moment left is_left kind place sum known shown.
    through file c second kind place sum later n at.0 at.1 at.2 (behind file c second t ms later are)
    shown (keeps_known (shape file) (units_shown file n.shown) c kind place sum known) log moment left is_left in rw (sym is) at each
