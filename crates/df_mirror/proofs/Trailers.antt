-- What is read of the trailer, in the theory's words.
use Rattle.std.{proofs.Common.{◌≡◌, ◌≢◌, inl, inr, ℕ, ◌-◌, ◌<◌, ◌≤◌, List, [], Option, Some, None, refl, sym, ◌∙◌, ap, subst, arith}, specs.Prelude.{◌^◌, min, Result, Ok, Err}}
use Rattle.{df_base.{specs.{Fields.{AreBytes}, Image.{Image, IsImage}}, proofs.Laws.{some_number}}, df_disk.specs.Told.{Told}}
use Rattle.{df_layout.specs.declared.{fields.Field.TheVariants.{Pending}, layout.Layout.{Layout}}, df_opening.specs.Below.{shape}}
use Rattle.df_format.specs.{declared.kind.Kind.TheVariants.{Trailer}, SuperRules.{IsSuper}, declared.superblock.SuperFields.{SuperFields}}
use Rattle.df_model.{specs.{Blocks.{Blocks, addresses, entries, sum_at}, declared.errors.OpenError.TheVariants.{BadField}}, proofs.Laws.{entry_at, entry_in}}
use Rattle.df_theory.{specs.{Shape.{Shape}, Trailer.{no_parts, text_of}, Units.{BlockPlace, Parts, Units}}, proofs.Laws.{text_bytes}}
use Rattle.df_theory.specs.Units as model
use Rattle.df_units.{specs.Meaning.{layout_of}, proofs.Laws.{of_places}}
use Rattle.df_sessions.specs.{declared.session.Session.{Session}, Requests.{sessions_of}}
use Rattle.df_trailer.{specs.{Reading.{HasRead}, Rooms.{AreParts}, Sessions.{AreReadSessions}, Text.{parse_of, parts_of}, declared.reader.Reader.{Reader}}, proofs.Laws.{text_read}}
use Rattle.df_trailer.specs.declared.parts.Parts as rooms
use Rattle.df_grid.specs.{Grid.{GridState}, Reads.{shown_of}, Table.{no_blocks}}
use Rattle.df_checkpoint.{specs.{Chain.{OfTold, error_of}, Reads.{ChainAnswer, IsAdopted, IsCompleteReader}, Waiting.{IsPendingReply}, declared.fault.TrailerFault.{TrailerFault}}, proofs.Laws.{complete_gives, its_text, some_chain, sessions_back, has_is, has_not}}
use Rattle.df_checkpoint.specs.declared.fault.TrailerFault.TheVariants as trailer
use Rattle.df_mirror.{specs.{declared.{ending.Ending.TheVariants.{Unopened}, superblock.Superblock.{Superblock}}, Known.{AreShown}, Refusals.{RefusesFirstTrailer}, Walks.{HasTrailerText, ReadsChainText, content_of_superblock, superblock_units}}, proofs.{Chains.{asked_shown, block_shown}, Counts.{reference}}}

-- a grid of the file in which no address is held
abbrev pub empty_grid : Superblock → GridState
empty_grid b = record { layout = b.file.layout; cluster = b.file.cluster; boot = 0; blocks = no_blocks }

-- ---- what the reader gives

abbrev pub GivesParts : Reader → rooms.Parts → Type 0
GivesParts reader parts = (layout : Layout) (op : ℕ) (text : List ℕ)
    → HasRead layout op reader text → AreParts (layout_of layout) parts (parts_of (layout_of layout) text)

module _ (b : Superblock) (usable : IsSuper b.content)
    (t : Told) (whole : IsImage t.shown) (g : GridState) (reader : Reader) (parts : rooms.Parts) (named : b.content.trailer_address ≢ 0)
    (adopted : IsAdopted (shape b.file) (shown_of b.file.layout b.file.cluster t.shown) (content_of_superblock b) g reader)
    (same : g.layout ≡ b.file.layout) (gives : GivesParts reader parts) where
  said : AreParts (layout_of b.file.layout) parts adopted.parts
  said = subst (AreParts (layout_of b.file.layout) parts)
      (sym adopted.parts_are) (gives b.file.layout b.content.op (text_of adopted.chain) (rw same at adopted.has))

  bytes : AreBytes (text_of adopted.chain)
  bytes = text_bytes (shape b.file) (superblock_units b t.shown)
      adopted.chain (of_places b.file.layout b.file.cluster b.file.named (parse_of (layout_of b.file.layout)) t.shown whole) adopted.shows

  -- a reference is one to a block of the grid
  inside : (a c : ℕ) → adopted.parts.references a ≡ Some c → (0 < a) × (a ≤ b.file.layout.blocks)
  inside a c is = let l = layout_of b.file.layout in let text = text_of adopted.chain in
      let parsed = its_text (shape b.file) b.content.op adopted.chain adopted.parts (some_chain (b.file.layout.block_size - 256)
      (content_of_superblock b) adopted.chain (some_number b.content.trailer_address named) adopted.trailer.links) adopted.trailer.says in
      let read = text_read l (min b.content.op (2 ^ 62)) text adopted.parts (omega arith) bytes parsed in (read.lawful.references a c is).0

  live : (a : ℕ) → sum_at a g.blocks.live ≡ adopted.parts.references a
  live a = ap (λ (x : List (ℕ × ℕ)). sum_at a x) (ap (λ (x : Blocks). x.live) adopted.blocks)
      ∙ by (adopted.parts.references a) refl (sum_at a (entries adopted.parts.references (addresses (layout_of b.file.layout)))) refl
    where
      by : (f : Option ℕ) → adopted.parts.references a ≡ f → (s : Option ℕ) → sum_at a (entries adopted.parts.references (addresses (layout_of b.file.layout))) ≡ s → sum_at a (entries adopted.parts.references (addresses (layout_of b.file.layout))) ≡ adopted.parts.references a
      by (Some c) is s at = let in_grid = inside a c is in
          entry_at adopted.parts.references 1 b.file.layout.blocks a in_grid.0 (omega (arith, in_grid.1))
      by None is (Some c) at = at ∙ sym (entry_in adopted.parts.references (addresses (layout_of b.file.layout)) a c at)
      by None is None at = at ∙ sym is

  named_text : HasTrailerText b (superblock_units b t.shown) g parts.sessions.items
  named_text = record {
    says = record { chain = adopted.chain; parts = adopted.parts; trailer = adopted.trailer; shown = adopted.shows };
    inside = inside;
    live = live;
    sessions_are = sym (ap sessions_of said.sessions ∙ sessions_back adopted.parts.sessions);
  }

-- ---- the sessions

pub sessions_read : (b : Superblock) (g : GridState) (reader : Reader) (ss : List Session) → g ≡ empty_grid b
    → IsCompleteReader g b.content.op reader
    → ((l : Layout) (op : ℕ) (text : List ℕ) → HasRead l op reader text → AreReadSessions l.clients op ss)
    → AreReadSessions b.file.layout.clients b.content.op ss
sessions_read b g reader ss same complete gives =
    complete_gives (λ (l : Layout) (op : ℕ). AreReadSessions l.clients op ss) g b.content.op reader b.file.layout complete
    (ap (λ (x : GridState). x.layout) same) gives

-- ---- why it isn't read

-- The chain or its text is refused, and no disk failed. Where each block that is wanted is shown, none is refused as damaged.
chain_refused : (b : Superblock) (image : Image) (g : GridState) (reader : Reader) (fault : TrailerFault) → b.content.trailer_address ≢ 0
    → AreShown (shape b.file) (superblock_units b image) (content_of_superblock b) Trailer → (fault ≡ trailer.DiskFault → ⊥)
    → ChainAnswer (shape b.file) (shown_of b.file.layout b.file.cluster image) (content_of_superblock b) g reader (Err fault)
    → ReadsChainText b image (Err (Unopened (error_of fault)))
chain_refused b image g reader (trailer.Damaged address class) named shown other lacking =
    let there = block_shown (superblock_units b image) address lacking.sum (shown (BlockPlace address) lacking.sum lacking.reads) in
    let ok = asked_shown (shown_of b.file.layout b.file.cluster image) address lacking.sum there.0 there.1 there.2 there.3 in
    let both : Ok there.0 ≡ Err class = sym ok ∙ lacking.is in absurd (cc)
chain_refused b image g reader (trailer.BadField field value) named shown other (inl broken) =
    (some_number b.content.trailer_address named, inl (inl broken))
chain_refused b image g reader (trailer.BadField field value) named shown other (inr (inl text)) =
    (some_number b.content.trailer_address named, inl (inr (inl text)))
chain_refused b image g reader (trailer.BadField field value) named shown other (inr (inr referenced)) =
    (some_number b.content.trailer_address named, inl (inr (inr (inl referenced))))
chain_refused b image g reader trailer.DiskFault named shown other answer = absurd (other refl)

-- ---- what is answered of a disk that is told

module _ (b : Superblock) (h g : GridState) (reader : Reader) (result : Result (Unit {0}) TrailerFault) (told : Option Told)
    (same : h ≡ empty_grid b)
    (answers : (sh : Shape) → sh.layout ≡ layout_of h.layout → sh.parse ≡ parse_of sh.layout
    → OfTold h told (λ shown. ChainAnswer sh shown (content_of_superblock b) g reader result)) (t : Told) (is : told ≡ Some t) where
  chain_answer : ChainAnswer (shape b.file) (shown_of b.file.layout b.file.cluster t.shown) (content_of_superblock b) g reader result
  chain_answer = let layout : (shape b.file).layout ≡ layout_of h.layout = ap (λ (x : GridState). layout_of x.layout) (sym same) in
      subst (λ (x : GridState). ChainAnswer (shape b.file) (shown_of x.layout x.cluster t.shown) (content_of_superblock b) g reader
      result) same
      (subst (λ (o : Option Told). OfTold h o (λ shown. ChainAnswer (shape b.file) shown (content_of_superblock b) g reader result)) is
      (answers (shape b.file) layout refl))

  module _ (f : SuperFields) (lent : f ≡ b.content) (some : f.trailer_address ≢ 0) where
    named : b.content.trailer_address ≢ 0
    named = subst (λ (x : SuperFields). x.trailer_address ≢ 0) lent some

    -- the trailer is read
    pub text_read_there : result ≡ Ok tt → IsSuper b.content → IsImage t.shown → g.layout ≡ h.layout → (parts : rooms.Parts)
        → GivesParts reader parts → HasTrailerText b (superblock_units b t.shown) g parts.sessions.items
    text_read_there ok usable whole layout parts gives =
        let answer = subst (λ (r : Result (Unit {0}) TrailerFault). ChainAnswer (shape b.file)
        (shown_of b.file.layout b.file.cluster t.shown) (content_of_superblock b) g reader r) ok chain_answer in
        named_text b usable t whole g reader parts named answer (layout ∙ ap (λ (x : GridState). x.layout) same) gives

    -- or it is refused
    pub text_refused_there : (fault : TrailerFault) → result ≡ Err fault
        → AreShown (shape b.file) (superblock_units b t.shown) (content_of_superblock b) Trailer → (fault ≡ trailer.DiskFault → ⊥)
        → ReadsChainText b t.shown (Err (Unopened (error_of fault)))
    text_refused_there fault err shown other = chain_refused b t.shown g reader fault named shown other
        (subst (λ (r : Result (Unit {0}) TrailerFault). ChainAnswer (shape b.file) (shown_of b.file.layout b.file.cluster t.shown)
        (content_of_superblock b) g reader r) err chain_answer)

-- ---- the ops that wait

pub text_untracked : (b : Superblock) (image : Image) (g : GridState) (ss : List Session) (n : ℕ) (f : SuperFields) → f ≡ b.content
    → f.trailer_address ≢ 0 → HasTrailerText b (superblock_units b image) g ss → IsPendingReply ss b.content.replies b.content.op (Some n)
    → RefusesFirstTrailer b.file image (content_of_superblock b) (BadField Pending n)
text_untracked b image g ss n f lent some text lacking = let named = subst (λ (x : SuperFields). x.trailer_address ≢ 0) lent some in (
  some_number b.content.trailer_address named,
  inl (inr (inr (inr (
    refl,
    record {
      chain = text.says.chain;
      whole = record { links = text.says.trailer.links; count = text.says.trailer.count; inside = text.says.trailer.inside; size = text.says.trailer.size; shows = text.says.shown };
      parts = text.says.parts;
      says = its_text (shape b.file) b.content.op text.says.chain text.says.parts (some_chain (b.file.layout.block_size - 256) (content_of_superblock b) text.says.chain (some_number b.content.trailer_address named) text.says.trailer.links) text.says.trailer.says;
      spare = text.says.trailer.spare;
      above = lacking.above;
      reached = lacking.reached;
      lacks = λ has. has_not n ss lacking.lacks (rw text.sessions_are at has);
      least = λ m above less. rw (sym text.sessions_are) at (has_is m ss (lacking.least m above less));
    },
  )))),
)

-- ---- no trailer

pub grid_is : (b : Superblock) (g : GridState) (l : Layout)
    → g ≡ record { layout = l; cluster = b.file.cluster; boot = 0; blocks = no_blocks } → l ≡ b.file.layout → g ≡ empty_grid b
grid_is b g l is same = subst (λ (x : Layout). g ≡ record { layout = x; cluster = b.file.cluster; boot = 0; blocks = no_blocks }) same is

pub no_text : (b : Superblock) (image : Units) → IsSuper b.content → b.content.trailer_address ≡ 0 → HasTrailerText b image (empty_grid b) []
no_text b image usable none = let is = reference b usable in let zero : b.content.trailer_size ≡ 0 = (is.none none).1 in record {
  says = record {
    chain = [];
    parts = no_parts;
    trailer = record { reference = is; links = none; count = record { holds = omega (arith, zero); needed = λ some. absurd (omega arith) }; inside = λ a x no. absurd no; size = sym zero; says = refl; spare = λ a x no. refl };
    shown = λ a x no. absurd no;
  };
  inside = λ a sum is. cc;
  live = λ a. refl;
  sessions_are = refl;
}
