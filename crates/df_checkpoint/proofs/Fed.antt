-- The text of a chain, as its blocks are shown again from the first to the last.
use Rattle.std.{proofs.Common.{◌≡◌, ℕ, zero, suc, ◌+◌, ◌-◌, ◌<◌, ◌≤◌, Option, Some, None, List, [], ◌∷◌, ◌++◌, length, drop, get_or, refl, sym, ap, ◌∙◌, subst, arith, append_assoc, rules}, specs.Prelude.{◌↔◌, IsOk, Result, Ok, Err}}
use Rattle.{df_base.specs.Causes.{IsBlamed}, df_disk.specs.Told.{Told}, df_layout.specs.declared.layout.Layout.{Layout}}
use Rattle.{df_format.specs.{Message.{Message}, declared.reference.Reference.{Reference}}, df_model.specs.Supply.{Shown}}
use Rattle.{df_theory.specs.{Units.{Block}, Trailer.{text_of}}, df_units.specs.Meaning.{block_of, layout_of, number_of}}
use Rattle.df_trailer.{specs.{declared.fault.Fault.{Fault}, declared.reader.Reader.{Reader}, Reading.{HasRead, failing_in}, Text.{answer, fault, refusal}}, proofs.Laws.{refusal_is_fault, refusal_stays}}
use Rattle.df_grid.specs.{Grid.{GridState, HasAddress}, Reads.{ReadsTrailer, shown_of}}
use Rattle.df_checkpoint.{specs.{declared.links.Link.{Link}, declared.fault.TrailerFault.{TrailerFault}, declared.fault.TrailerFault.TheVariants.{Damaged, BadField, DiskFault}, Chain.{AreDistinctLinks, Names, OfTold, asked, is_trailer_fault}, Texts.{FeedAnswer, Feeds, HasReadTo, IsPieceBody, TextAnswer, bad_of}}, proofs.Walked.{names_length}}

-- ---- one block

body_of : (g : GridState) (told : Option Told) (at : Link) (u : Message)
    → ReadsTrailer g.layout g.cluster told at.address (number_of at.checksum) (Ok (block_of u)) → IsPieceBody g told at u.body
body_of g None at u reads = tt
body_of g (Some t) at u reads = (block_of u, sym reads, refl)

-- the body of the block that is shown is the piece that the reader is given
pub fed_answer : (g : GridState) (told : Option Told) (at : Link) (r : Reference)
    (old new : Reader) (u : Message) (result : Result (Unit {0}) TrailerFault) → r ≡ record { address = at.address; checksum = at.checksum }
    → ReadsTrailer g.layout g.cluster told r.address (number_of r.checksum) (Ok (block_of u))
    → Feeds old new u.body result → FeedAnswer g told at old new result
fed_answer g told at r old new u result refers reads feeds = go result feeds
  where
    body : IsPieceBody g told at u.body
    body = body_of g told at u (rw refers at reads)

    no_damage : (a : ℕ) (class : _) (given : Result (Unit {0}) Fault) → Err (Damaged a class) ≡ bad_of given → ⊥
    no_damage a class (Ok x) is = cc
    no_damage a class (Err f) is = cc

    go : (result : Result (Unit {0}) TrailerFault) → Feeds old new u.body result → FeedAnswer g told at old new result
    go (Ok x) feeds = record { piece = u.body; body = body; feeds = feeds }
    go (Err (BadField field value)) feeds = record { piece = u.body; body = body; feeds = feeds }
    go (Err (Damaged address class)) feeds = absurd (no_damage address class feeds.given feeds.is)
    go (Err DiskFault) feeds = tt

-- a reader doesn't blame the disk
pub fed_blames : (before now : ℕ) (result : Result (Unit {0}) TrailerFault) (given : Result (Unit {0}) Fault)
    → now ≡ before → result ≡ bad_of given → IsBlamed is_trailer_fault before now result
fed_blames before now result given same is = rw (sym is) at (go given)
  where
    go : (given : Result (Unit {0}) Fault) → IsBlamed is_trailer_fault before now (bad_of given)
    go (Ok x) = same
    go (Err f) = same

-- ---- the chain

-- the text of a chain begins with that of its first blocks
pub record IsFront (front whole : List ℕ) : Type 0 where
  pub more : List ℕ
  pub is : whole ≡ front ++ more

text_front : (k : ℕ) (chain : List (ℕ × Block)) → IsFront (text_of (drop k chain)) (text_of chain)
text_front zero chain = record { more = []; is = all (text_of chain) }
  where
    all : (xs : List ℕ) → xs ≡ xs ++ []
    all [] = refl
    all (x ∷ xs) = ap (λ (l : List ℕ). x ∷ l) (all xs)
text_front (suc k) [] = record { more = []; is = refl }
text_front (suc k) (x ∷ xs) = let rest = text_front k xs in record { more = rest.more ++ x.1.body; is = ap (λ (l : List ℕ). l ++ x.1.body) rest.is ∙ append_assoc (text_of (drop k xs)) rest.more x.1.body }

-- the block that a reference names, and those after it in the list
pub record IsAt (shown : Shown) (chain : List (ℕ × Block)) (k : ℕ) (at : Link) : Type 0 where
  pub block : Block
  pub is : asked shown at.address (number_of at.checksum) ≡ Ok block
  pub split : drop k chain ≡ (at.address, block) ∷ drop (suc k) chain

pub names_at : (shown : Shown) (refs : List Link) (chain : List (ℕ × Block)) (k : ℕ) (at : Link)
    → Names shown refs chain → k < length refs → at ≡ get_or refs k at → IsAt shown chain k at
names_at shown [] chain k at names less here = absurd (omega arith)
names_at shown (r ∷ rs) [] k at names less here = absurd names
names_at shown (r ∷ rs) (x ∷ xs) zero at names less here = record {
  block = x.1;
  is = ap (λ (l : Link). asked shown l.address (number_of l.checksum)) here ∙ names.1;
  split = ap (λ (a : ℕ). (a, x.1) ∷ xs) (names.0 ∙ ap (λ (l : Link). l.address) (sym here));
}
names_at shown (r ∷ rs) (x ∷ xs) (suc k) at names less here = let more = names_at shown rs xs k at names.2 (omega arith) here in
    record { block = more.block; is = more.is; split = more.split }

-- the texts of the first done blocks, and of one more
text_more : (shown : Shown) (refs : List Link) (chain : List (ℕ × Block)) (done k : ℕ) (at : Link) (b : Block)
    → Names shown refs chain → length refs ≡ k + (done + 1) → at ≡ get_or refs k at → asked shown at.address (number_of at.checksum) ≡ Ok b
    → text_of (drop (length refs - done) chain) ++ b.body ≡ text_of (drop (length refs - (done + 1)) chain)
text_more shown refs chain done k at b names size here is = let there = names_at shown refs chain k at names (omega arith) here in
    let shows = there.is in let same : there.block ≡ b = cc in let one : length refs - done ≡ suc k = omega arith in
    let two : length refs - (done + 1) ≡ k = omega arith in
    ap (λ (n : ℕ). text_of (drop n chain) ++ b.body) one ∙ ap (λ (c : Block). text_of (drop (suc k) chain) ++ c.body) (sym same)
    ∙ sym (ap text_of there.split) ∙ ap (λ (n : ℕ). text_of (drop n chain)) (sym two)

pub read_more : (g : GridState) (told : Option Told) (refs : List Link) (op done k : ℕ) (at : Link) (old new : Reader) (x : Unit {0})
    → length refs ≡ k + (done + 1) → at ≡ get_or refs k at
    → FeedAnswer g told at old new (Ok x) → HasReadTo g told refs op done old → HasReadTo g told refs op (done + 1) new
read_more g told refs op done k at old new x size here fed read = record {
  text = read.text ++ fed.piece;
  has = fed.feeds.kept g.layout op read.text read.has;
  is = go told fed.body read.is;
}
  where
    go : (t : Option Told) → IsPieceBody g t at fed.piece
        → OfTold g t (λ shown. (chain : List (ℕ × Block)) → Names shown refs chain → read.text ≡ text_of (drop (length refs - done) chain))
        → OfTold g t (λ shown. (chain : List (ℕ × Block))
        → Names shown refs chain → read.text ++ fed.piece ≡ text_of (drop (length refs - (done + 1)) chain))
    go None body is = tt
    go (Some t) body is = λ chain names.
        ap (λ (l : List ℕ). l ++ fed.piece) (is chain names) ∙ ap (λ (l : List ℕ). text_of (drop (length refs - done) chain) ++ l) body.2
        ∙ text_more (shown_of g.layout g.cluster t.shown) refs chain done k at body.0 names size here body.1

-- what is refused of a front is refused of the whole text
refused_whole : (layout : Layout) (op : ℕ) (front whole : List ℕ) (field : _) (value : ℕ) → IsFront front whole → Err (BadField field value) ≡ bad_of (answer (refusal (layout_of layout) op front)) → fault (layout_of layout) op whole ≡ Some (record { field = field; value = value })
refused_whole layout op front whole field value begins is = go (refusal (layout_of layout) op front) refl is
  where
    go : (o : Option Fault) → refusal (layout_of layout) op front ≡ o → Err (BadField field value) ≡ bad_of (answer o)
        → fault (layout_of layout) op whole ≡ Some (record { field = field; value = value })
    go None e is = absurd (cc)
    go (Some f) e is = let one : f.field ≡ field = cc in let two : f.value ≡ value = cc in
        ap (λ (t : List ℕ). fault (layout_of layout) op t) begins.is
        ∙ refusal_is_fault (layout_of layout) op (front ++ begins.more) f (refusal_stays (layout_of layout) op front begins.more f e)
        ∙ ap (λ (x : _). Some (record { field = x; value = f.value })) one ∙ ap (λ (n : ℕ). Some (record { field = field; value = n })) two

pub read_refused : (g : GridState) (told : Option Told) (refs : List Link)
    (op done k : ℕ) (at : Link) (old new last : Reader) (e : TrailerFault) → length refs ≡ k + (done + 1) → at ≡ get_or refs k at
    → FeedAnswer g told at old new (Err e) → HasReadTo g told refs op done old → TextAnswer g told refs op last (Err e)
read_refused g None refs op done k at old new last (BadField field value) size here fed read = tt
read_refused g None refs op done k at old new last (Damaged address class) size here fed read = tt
read_refused g told refs op done k at old new last DiskFault size here fed read = tt
read_refused g (Some t) refs op done k at old new last (Damaged address class) size here fed read = λ chain names.
    let there = names_at (shown_of g.layout g.cluster t.shown) refs chain k at names (omega arith) here in let one = there.is in cc
read_refused g (Some t) refs op done k at old new last (BadField field value) size here fed read = λ chain names.
    let said : read.text ++ fed.piece ≡ text_of (drop (length refs - (done + 1)) chain) =
    ap (λ (l : List ℕ). l ++ fed.piece) (read.is chain names) ∙ ap (λ (l : List ℕ). text_of (drop (length refs - done) chain) ++ l) fed.body.2
    ∙ text_more (shown_of g.layout g.cluster t.shown) refs chain done k at fed.body.0 names size here fed.body.1 in
    refused_whole g.layout op (read.text ++ fed.piece) (text_of chain) field value
    (rw (sym said) at (text_front (length refs - (done + 1)) chain)) (fed.feeds.refuses g.layout op read.text read.has)

-- ---- all blocks

-- a link of the chain has an address of the grid
pub apart_inside : (g : GridState) (refs : List Link) (k : ℕ) (at : Link)
    → AreDistinctLinks g refs → k < length refs → at ≡ get_or refs k at → HasAddress g at.address
apart_inside g [] k at apart less here = absurd (omega arith)
apart_inside g (r ∷ rs) zero at apart less here = subst (λ (l : Link). HasAddress g l.address) (sym here) apart.0
apart_inside g (r ∷ rs) (suc k) at apart less here = apart_inside g rs k at apart.2 (omega arith) here

-- the same with a copy of the grid
pub feed_same : (g h : GridState) (told tell : Option Told) (at : Link) (old new : Reader) (result : Result (Unit {0}) TrailerFault)
    → g ≡ h → told ≡ tell → FeedAnswer g told at old new result → FeedAnswer h tell at old new result
feed_same g h told tell at old new result e d fed = subst (λ (t : Option Told). FeedAnswer h t at old new result) d (rw e at fed)

pub read_first : (g : GridState) (told : Option Told) (refs : List Link) (op : ℕ) (reader : Reader)
    → HasRead g.layout op reader [] → HasReadTo g told refs op 0 reader
read_first g told refs op reader has = record { text = []; has = has; is = go told }
  where
    gone : (n : ℕ) (xs : List (ℕ × Block)) → length xs ≤ n → drop n xs ≡ []
    gone zero [] less = refl
    gone (suc n) [] less = refl
    gone zero (x ∷ xs) less = absurd (omega arith)
    gone (suc n) (x ∷ xs) less = gone n xs (omega arith)

    none : (shown : Shown) (rs : List Link) (chain : List (ℕ × Block)) → Names shown rs chain → [] ≡ text_of (drop (length rs - 0) chain)
    none shown rs chain names = let size = names_length shown rs chain names in
        sym (ap text_of (gone (length rs - 0) chain (omega (arith, size))))

    go : (t : Option Told)
        → OfTold g t (λ shown. (chain : List (ℕ × Block)) → Names shown refs chain → [] ≡ text_of (drop (length refs - 0) chain))
    go None = tt
    go (Some t) = none (shown_of g.layout g.cluster t.shown) refs

-- the end of the text
pub text_ends : (g : GridState) (told : Option Told) (refs : List Link) (op done : ℕ) (reader : Reader)
    (given : Result (Unit {0}) Fault) (result : Result (Unit {0}) TrailerFault) → done ≡ length refs → HasReadTo g told refs op done reader
    → ((layout : Layout) (op : ℕ) (text : List ℕ) → HasRead layout op reader text → given ≡ answer (fault (layout_of layout) op text))
    → (IsOk given ↔ (failing_in reader ≡ None)) → result ≡ bad_of given → TextAnswer g told refs op reader result
text_ends g told refs op done reader given result all read ends whole is = rw (sym is) at (go given ends whole)
  where
    zeros : (n : ℕ) → n ≡ length refs → length refs - n ≡ 0
    zeros n e = omega arith

    said : (t : Option Told) → OfTold g t (λ shown. (chain : List (ℕ × Block)) → Names shown refs chain → read.text ≡ text_of (drop
        (length refs - done) chain)) → OfTold g t (λ shown. (chain : List (ℕ × Block)) → Names shown refs chain → read.text ≡ text_of chain)
    said None h = tt
    said (Some t) h = λ chain names. h chain names ∙ ap (λ (n : ℕ). text_of (drop n chain)) (zeros done all)

    failed : (f : Fault) → Err f ≡ answer (fault (layout_of g.layout) op read.text) → (t : Option Told) → OfTold g t (λ shown. (chain : List
        (ℕ × Block)) → Names shown refs chain → read.text ≡ text_of chain) → TextAnswer g t refs op reader (Err (BadField f.field f.value))
    failed f e None h = tt
    failed f e (Some t) h = λ chain names.
        ap (λ (l : List ℕ). fault (layout_of g.layout) op l) (sym (h chain names)) ∙ pick (fault (layout_of g.layout) op read.text) e
      where
        pick : (o : Option Fault) → Err f ≡ answer o → o ≡ Some f
        pick None e = absurd (cc)
        pick (Some x) e = let same : x ≡ f = cc in ap (λ (y : Fault). Some y) same

    clean : {x : Unit {0}} (o : Option Fault) → Ok x ≡ answer o → o ≡ None
    clean None e = refl
    clean (Some f) e = absurd (cc)

    go : (given : Result (Unit {0}) Fault) → ((layout : Layout) (op : ℕ) (text : List ℕ) → HasRead layout op reader text → given ≡ answer
        (fault (layout_of layout) op text)) → (IsOk given ↔ (failing_in reader ≡ None)) → TextAnswer g told refs op reader (bad_of given)
    go (Ok x) ends whole = record { text = read.text; has = read.has; whole = whole.0 (search rules); fine = clean (fault (layout_of g.layout) op read.text) (ends g.layout op read.text read.has); is = said told read.is }
    go (Err f) ends whole = failed f (ends g.layout op read.text read.has) told (said told read.is)
