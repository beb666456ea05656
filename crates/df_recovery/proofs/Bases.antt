-- The checkpoint of a superblock: with the trailer that was read, or with none.
use Rattle.std.{proofs.Common.{◌≡◌, ◌≢◌, inl, inr, ℕ, zero, suc, ◌-◌, ◌<◌, List, [], ◌∷◌, Option, Some, None, refl, sym, ◌∙◌, ap, subst, arith}, specs.Prelude.{Ok, Err, IfSome}}
use Rattle.{df_base.{specs.Image.{Image}, proofs.Laws.{some_number}}, df_disk.specs.Told.{Told}, df_sessions.specs.Requests.{sessions_of}}
use Rattle.df_layout.specs.{declared.fields.Field.TheVariants.{Pending}, declared.layout.Layout.{Layout}}
use Rattle.df_format.specs.{Copies.{content_with}, SuperRules.{IsSuper}, declared.superblock.SuperFields.{SuperFields}}
use Rattle.df_theory.specs.Units
use Rattle.df_theory.specs.{Sessions.{Has, Tracks}, Trailer.{InChain, IsReference, IsTrailer, no_parts, text_of}}
use Rattle.df_model.specs.{Blocks.{addresses, entries}, Supply.{Shown}}
use Rattle.df_model.specs.declared.errors.OpenError.TheVariants as OpenError
use Rattle.df_units.{specs.{Bytes.{unit_at}, Meaning.{layout_of}, Superblocks.{AreFieldsOf}}, proofs.Laws.{usable_passes}}
use Rattle.df_trailer.specs.{Reading.{HasRead}, Rooms.{AreParts}, Sessions.{AreReadSessions}, Text.{parse_of, parts_of}, declared.reader.Reader.{Reader}}
use Rattle.df_trailer.specs.declared.parts.Parts as rooms
use Rattle.df_grid.specs.{Grid.{GridState}, Reads.{shown_of}, Table.{IsIdle, no_blocks}}
use Rattle.df_checkpoint.{specs.{Chain.{OfTold, content_in, error_of}, Reads.{ChainAnswer, IsAdopted, blocks_read}, Waiting.{IsPendingReply, IsUntracked}, declared.fault.TrailerFault.{TrailerFault}, declared.fault.TrailerFault.TheVariants.{BadField, Damaged, DiskFault}}, proofs.Laws.{its_text, some_chain, sessions_back, has_is, has_not}}
use Rattle.df_rooms.specs.{State.{shape}, declared.file.DataFile.{DataFile}, declared.trailer_rooms.ReaderRoom.{ReaderRoom}}
use Rattle.df_recovery.{specs.{Checkpoints.{Base, HasCheckpoint, HasText, RefusesTrailer, TellsCheckpoint, TellsText}, Scanning.{AreRoomsOf, FitsFile}}, proofs.Tracked.{tracked, none_tracked}}

-- ---- the rooms

-- an empty grid of a file fits it
pub empty_fits : (file : DataFile) (g : GridState) (rooms : Layout) → AreRoomsOf file g rooms → FitsFile file g rooms
empty_fits file g rooms are = record {
  layout_is = ap (λ (x : GridState). x.layout) are.grid_is;
  cluster_is = ap (λ (x : GridState). x.cluster) are.grid_is;
  boot_is = ap (λ (x : GridState). x.boot) are.grid_is;
  idle = rw are.grid_is (record { captured = refl; written = refl; left = refl });
  rooms_are = are.rooms_are;
}

-- the room that a reader takes is of the trailer's layout
pub room_fits : (o : Option ReaderRoom) (room : ReaderRoom) (layout : Layout)
    → IfSome o (λ r. r.layout ≡ layout) → Some room ≡ o → room.layout ≡ layout
room_fits o room layout fits is = subst (λ (x : Option ReaderRoom). IfSome x (λ r. r.layout ≡ layout)) (sym is) fits

-- ---- no trailer

pub no_op : (f : SuperFields) → IsSuper f → f.trailer_address ≡ 0 → f.op ≡ 0
no_op f usable none = zero_if f.op (λ some. usable.trailer.1 some none)
  where
    zero_if : (n : ℕ) → ((n ≡ 0 → ⊥) → ⊥) → n ≡ 0
    zero_if zero never = refl
    zero_if (suc n) never = absurd (never (λ zero. omega (arith, zero)))

no_entries : (list : List ℕ) → entries no_parts.references list ≡ []
no_entries [] = refl
no_entries (a ∷ list) = no_entries list

none_read : (l : Units.Layout) → no_blocks ≡ blocks_read l no_parts []
none_read l = ap (λ (xs : List (ℕ × ℕ)).
    record { live = xs; captured = []; written = []; left = []; durable = xs; chain = [] }) (sym (no_entries (addresses l)))

module _ (file : DataFile) (image : Units.Units)
    (f : SuperFields) (of : AreFieldsOf file.layout file.cluster f) (usable : IsSuper f) (none : f.trailer_address ≡ 0) where
  reference : IsReference (layout_of file.layout) (content_in f)
  reference = (usable_passes file.layout file.cluster file.named (parse_of (layout_of file.layout)) (content_with f) of usable).1

  trailer : IsTrailer (shape file) (content_in f) [] no_parts
  trailer = record {
    reference = reference;
    links = none;
    count = record { holds = omega (arith, usable.no_trailer none); needed = λ some. absurd (omega arith) };
    inside = λ a b no. absurd no;
    size = sym (usable.no_trailer none);
    says = refl;
    spare = λ a b no. refl;
  }

  pub no_base : HasCheckpoint file image f (record { root = []; sessions = []; blocks = no_blocks })
  no_base = record {
    chain = [];
    parts = no_parts;
    trailer = trailer;
    shown = λ a b no. absurd no;
    tracks = none_tracked f.replies f.op (no_op f usable none);
    root_is = refl;
    sessions_are = refl;
    blocks_are = none_read (layout_of file.layout);
  }

-- and so it is of a disk, told or not
pub told_none : (file : DataFile) (told : Option Told) (f : SuperFields) (base : Base) → AreFieldsOf file.layout file.cluster f → IsSuper f
    → f.trailer_address ≡ 0 → base ≡ record { root = []; sessions = []; blocks = no_blocks } → TellsCheckpoint file told f (Ok base)
told_none file None f base of usable none is = tt
told_none file (Some t) f base of usable none is = subst (HasCheckpoint file (unit_at file.layout file.cluster t.shown) f)
    (sym is) (no_base file (unit_at file.layout file.cluster t.shown) f of usable none)

-- ---- a trailer that was read

-- what the reader gives of each text that it was fed
abbrev pub GivesParts : Reader → rooms.Parts → Type 0
GivesParts reader parts = (layout : Layout) (op : ℕ) (text : List ℕ)
    → HasRead layout op reader text → AreParts (layout_of layout) parts (parts_of (layout_of layout) text)

module _ (file : DataFile) (shown : Shown) (f : SuperFields) (g : GridState) (reader : Reader) (parts : rooms.Parts)
    (adopted : IsAdopted (shape file) shown (content_in f) g reader) (same : g.layout ≡ file.layout) (gives : GivesParts reader parts) where
  said : AreParts (layout_of file.layout) parts adopted.parts
  said = subst (AreParts (layout_of file.layout) parts)
      (sym adopted.parts_are) (gives file.layout f.op (text_of adopted.chain) (rw same at adopted.has))

  sessions_said : adopted.parts.sessions ≡ sessions_of parts.sessions.items
  sessions_said = sym (ap sessions_of said.sessions ∙ sessions_back adopted.parts.sessions)

  pub adopted_text : (image : Units.Units)
      → shown.units ≡ image → HasText file image f (record { root = parts.root.items; sessions = parts.sessions.items; blocks = g.blocks })
  unfolding said sessions_said
  adopted_text image is = record {
    chain = adopted.chain;
    parts = adopted.parts;
    trailer = adopted.trailer;
    shown = rw is at adopted.shows;
    root_is = said.root;
    sessions_are = sessions_said;
    blocks_are = adopted.blocks;
  }

-- ---- the ops that wait

-- each of them has its session
text_tracked : (file : DataFile) (image : Units.Units) (f : SuperFields) (base : Base) → HasText file image f base → AreReadSessions
    file.layout.clients f.op base.sessions → IsPendingReply base.sessions f.replies f.op None → HasCheckpoint file image f base
text_tracked file image f base text read pending = record {
  chain = text.chain;
  parts = text.parts;
  trailer = text.trailer;
  shown = text.shown;
  tracks = subst (Tracks f.replies f.op) (sym text.sessions_are) (tracked file.layout.clients f.replies f.op base.sessions read pending);
  root_is = text.root_is;
  sessions_are = text.sessions_are;
  blocks_are = text.blocks_are;
}

-- one of them has none
text_untracked : (file : DataFile) (shown : Shown) (f : SuperFields) (base : Base) (n : ℕ) → HasText file shown.units f base
    → 0 < f.trailer_address → IsPendingReply base.sessions f.replies f.op (Some n) → IsUntracked (shape file) shown (content_in f) n
text_untracked file shown f base n text named lacking = record {
  chain = text.chain;
  whole = record {
    links = text.trailer.links;
    count = text.trailer.count;
    inside = text.trailer.inside;
    size = text.trailer.size;
    shows = text.shown;
  };
  parts = text.parts;
  spare = text.trailer.spare;
  says = its_text (shape file) f.op text.chain
      text.parts (some_chain (file.layout.block_size - 256) (content_in f) text.chain named text.trailer.links) text.trailer.says;
  above = lacking.above;
  reached = lacking.reached;
  lacks = λ has. has_not n base.sessions lacking.lacks (rw text.sessions_are at has);
  least = λ m above less. rw (sym text.sessions_are) at (has_is m base.sessions (lacking.least m above less));
}

-- ---- of a disk, told or not

pub told_text : (file : DataFile) (told : Option Told) (f : SuperFields) (g h : GridState) (reader : Reader) (parts : rooms.Parts)
    → h.layout ≡ file.layout → h.cluster ≡ file.cluster → g.layout ≡ file.layout
    → OfTold h told (λ shown. ChainAnswer (shape file) shown (content_in f) g reader (Ok tt)) → GivesParts reader parts
    → TellsText file told f (record { root = parts.root.items; sessions = parts.sessions.items; blocks = g.blocks })
told_text file None f g h reader parts layout cluster same answer gives = tt
told_text file (Some t) f g h reader parts layout cluster same answer gives = adopted_text file (shown_of h.layout h.cluster t.shown)
    f g reader parts answer same gives (unit_at file.layout file.cluster t.shown) (λ i. unit_at (layout i) (cluster i) t.shown)

pub told_base : (file : DataFile) (told : Option Told) (f : SuperFields) (base : Base) → TellsText file told f base → AreReadSessions
    file.layout.clients f.op base.sessions → IsPendingReply base.sessions f.replies f.op None → TellsCheckpoint file told f (Ok base)
told_base file None f base text read pending = tt
told_base file (Some t) f base text read pending = text_tracked file (unit_at file.layout file.cluster t.shown) f base text read pending

-- an op that waits has no session
pub told_untracked : (file : DataFile) (told : Option Told) (f : SuperFields) (base : Base) (n : ℕ) → f.trailer_address ≢ 0 → TellsText file
    told f base → IsPendingReply base.sessions f.replies f.op (Some n) → TellsCheckpoint file told f (Err (OpenError.BadField Pending n))
told_untracked file None f base n named text lacking = tt
told_untracked file (Some t) f base n named text lacking = let some = some_number f.trailer_address named in (
  some,
  inr (inr (inr (refl, text_untracked file (shown_of file.layout file.cluster t.shown) f base n text some lacking))),
)

-- the trailer is refused
refused_shown : (file : DataFile) (image : Image) (f : SuperFields) (g : GridState) (reader : Reader) (e : TrailerFault)
    → 0 < f.trailer_address → ChainAnswer (shape file) (shown_of file.layout file.cluster image) (content_in f) g reader (Err e)
    → RefusesTrailer file image f (error_of e)
refused_shown file image f g reader (Damaged address class) named answer = (named, address, refl, answer)
refused_shown file image f g reader (BadField field value) named (inl broken) = (named, inl broken)
refused_shown file image f g reader (BadField field value) named (inr (inl text)) = (named, inr (inl text))
refused_shown file image f g reader (BadField field value) named (inr (inr referenced)) = (named, inr (inr (inl referenced)))
refused_shown file image f g reader DiskFault named answer = tt

pub told_refused : (file : DataFile) (told : Option Told) (f : SuperFields) (g h : GridState) (reader : Reader) (e : TrailerFault)
    → h.layout ≡ file.layout → h.cluster ≡ file.cluster → f.trailer_address ≢ 0
    → OfTold h told (λ shown. ChainAnswer (shape file) shown (content_in f) g reader (Err e)) → TellsCheckpoint file told f (Err (error_of e))
told_refused file None f g h reader e layout cluster named answer = tt
told_refused file (Some t) f g h reader e layout cluster named answer =
    refused_shown file t.shown f g reader e (some_number f.trailer_address named) (subst (λ (shown : Shown).
    ChainAnswer (shape file) shown (content_in f) g reader (Err e)) (λ i. shown_of (layout i) (cluster i) t.shown) answer)

pub told_fault : (file : DataFile) (told : Option Told) (f : SuperFields) → TellsCheckpoint file told f (Err OpenError.DiskFault)
told_fault file None f = tt
told_fault file (Some t) f = tt
