-- A trailer that is refused is that of no checkpoint that can be read: what is shown has one chain, and it has one text.
use Rattle.std.{proofs.Common.{◌≡◌, ℕ, ◌+◌, ◌-◌, ◌^◌, ◌<◌, ◌≤◌, Bool, false, Option, Some, None, List, [], ◌∷◌, length, min, refl, sym, ap, ◌∙◌, arith, inl, inr, eq-eqb}, specs.Prelude.{Ok}}
use Rattle.{df_layout.specs.declared.damage.Class.TheVariants.{Stale}, df_grid.specs.Reads.{trailer_alone}}
use Rattle.df_theory.specs.{Units.{AnyUnit, Block, BlockPlace, BlockUnit, Content, Parts, Units}, Sessions.{Has}, Shape.{Shape}, Trailer.{InChain, IsCount, Links, Says, text_of}, Opens.{Arrives, IsLink, IsReadable, IsShown}, View.{Checkpoint}}
use Rattle.df_model.{specs.{Supply.{Shown, block_given, class_at, given_if}, Work.{is_known}}, proofs.Laws.{count_le}}
use Rattle.df_trailer.specs.{declared.fault.Fault.{Fault}, Text.{fault, parse_of, parts_of, unless}}
use Rattle.df_checkpoint.{specs.{Chain.{asked}, Reads.{IsWholeChain}, Laws.{BadTextIsUnreadable, BrokenIsUnreadable, DamageIsMissed, ReferencedIsUnreadable, UntrackedIsUnreadable}}, proofs.OneLink.{asked_is}}

-- a block that is shown as it is wanted is the answer
shown_asked : (shown : Shown) (a k : ℕ) (is : IsShown shown.units a k) → asked shown a k ≡ Ok is.0
shown_asked shown a k (b, at, sum, kind) =
    ap (λ (o : Option AnyUnit). trailer_alone (block_given (Some k) o (class_at shown (BlockPlace a)))) at
    ∙ ap (λ (t : Bool). trailer_alone (given_if t b (class_at shown (BlockPlace a)))) (eq-eqb b.checksum k sum)
    ∙ ap (λ (t : Bool). given_if t b Stale) (eq-eqb b.kind 0 kind)

pub damage_missed : DamageIsMissed
damage_missed sh shown c a class lacking = record { sum = lacking.sum; reads = lacking.reads; missed = λ is. let one = shown_asked shown a lacking.sum is in let two = lacking.is in cc }

-- what is shown has one chain
pub same_chain : (room : ℕ) (image : Units) (c : Content) (xs ys : List (ℕ × Block)) (address sum : ℕ)
    → Links room c xs address sum → Links room c ys address sum
    → ((a : ℕ) (b : Block) → InChain a b xs → image (BlockPlace a) ≡ Some (BlockUnit b))
    → ((a : ℕ) (b : Block) → InChain a b ys → image (BlockPlace a) ≡ Some (BlockUnit b)) → xs ≡ ys
same_chain room image c [] [] address sum one two first second = refl
same_chain room image c [] (y ∷ ys) address sum one two first second = absurd (omega (arith, one, two.0))
same_chain room image c (x ∷ xs) [] address sum one two first second = absurd (omega (arith, one.0, two))
same_chain room image c (x ∷ xs) (y ∷ ys) address sum one two first second = let place : x.0 ≡ y.0 = one.1 ∙ sym two.1 in
    let both : Some (BlockUnit x.1) ≡ Some (BlockUnit y.1) =
    sym (first x.0 x.1 (inl (refl, refl))) ∙ ap (λ (n : ℕ). image (BlockPlace n)) place ∙ second y.0 y.1 (inl (refl, refl)) in
    let block : x.1 ≡ y.1 = cc in
    let rest : xs ≡ ys = same_chain room image c xs ys x.1.before x.1.before_checksum one.7 (rw (sym block) at two.7) (λ a b at.
    first a b (inr at)) (λ a b at. second a b (inr at)) in
    ap (λ (n : ℕ). (n, x.1) ∷ xs) place ∙ ap (λ (b : Block). (y.0, b) ∷ xs) block ∙ ap (λ (l : List (ℕ × Block)). (y.0, y.1) ∷ l) rest

-- of a checkpoint that can be read the chain is the whole one
its_chain : (sh : Shape) (shown : Shown) (c : Content) (chain : List (ℕ × Block))
    → IsWholeChain sh shown c chain → (b : Checkpoint) → b.content ≡ c → IsReadable sh shown.units b → chain ≡ b.chain
its_chain sh shown c chain whole b same readable = same_chain (sh.layout.block_size - 256) shown.units
    c chain b.chain c.trailer c.trailer_checksum whole.links (rw same at readable.sound.trailer.links) whole.shows readable.shown

-- a whole chain has a block, so its text is parsed
pub its_text : (sh : Shape) (op : ℕ) (chain : List (ℕ × Block)) (parts : Parts)
    → (chain ≡ [] → ⊥) → Says sh op chain parts → sh.parse op (text_of chain) ≡ Some parts
its_text sh op [] parts some says = absurd (some refl)
its_text sh op (x ∷ xs) parts some says = says

pub some_chain : (room : ℕ) (c : Content) (chain : List (ℕ × Block))
    → 0 < c.trailer → Links room c chain c.trailer c.trailer_checksum → chain ≡ [] → ⊥
some_chain room c [] some links is = omega (arith, links)
some_chain room c (x ∷ xs) some links is = cc

its_parts : (sh : Shape) (shown : Shown) (c : Content) (chain : List (ℕ × Block)) → 0 < c.trailer → IsWholeChain sh shown c chain
    → (b : Checkpoint) → b.content ≡ c → IsReadable sh shown.units b → sh.parse c.op (text_of chain) ≡ Some b.parts
its_parts sh shown c chain some whole b same readable = let chains = its_chain sh shown c chain whole b same readable in
    its_text sh c.op chain b.parts (some_chain (sh.layout.block_size - 256) c chain some whole.links)
    (rw (sym chains) at (rw same at readable.sound.trailer.says))

-- a text of which a part fails isn't parsed
pub unparsed : (sh : Shape) (op : ℕ) (text : List ℕ) (f : Fault)
    → sh.parse ≡ parse_of sh.layout → op ≤ 2 ^ 62 → fault sh.layout op text ≡ Some f → sh.parse op text ≡ None
unparsed sh op text f parse most fails = let least : min op (2 ^ 62) ≡ op = omega arith in
    ap (λ (p : ℕ → List ℕ → Option Parts). p op text) parse ∙ ap (λ (n : ℕ).
    unless (fault sh.layout n text) (parts_of sh.layout text)) least ∙ ap (λ (o : Option Fault). unless o (parts_of sh.layout text)) fails

pub text_unreadable : BadTextIsUnreadable
text_unreadable sh shown c field value parse some most bad b same readable =
    let none = unparsed sh c.op (text_of bad.chain) (record { field = field; value = value }) parse most bad.fails in
    let said = its_parts sh shown c bad.chain some bad.whole b same readable in cc

pub referenced_unreadable : ReferencedIsUnreadable
referenced_unreadable sh shown c at some bad b same readable = let chains = its_chain sh shown c bad.chain bad.whole b same readable in
    let said = its_parts sh shown c bad.chain some bad.whole b same readable in let says = bad.says in
    let parts : b.parts ≡ bad.parts = cc in
    let none : b.parts.references at ≡ None = readable.sound.trailer.spare at bad.block (rw chains at bad.chained) in
    let known = bad.known in
    let no : is_known (bad.parts.references at) ≡ false = ap (λ (p : Parts). is_known (p.references at)) (sym parts) ∙ ap is_known none in cc

-- an op that waits has its session in each checkpoint that can be read
pub untracked_unreadable : UntrackedIsUnreadable
untracked_unreadable sh shown c n some bad b same readable = let said = its_parts sh shown c bad.chain some bad.whole b same readable in
    let says = bad.says in let parts : b.parts ≡ bad.parts = cc in
    let above : b.content.replies < n = omega (arith, bad.above, ap (λ (d : Content). d.replies) same) in
    let reached : n ≤ b.content.op = omega (arith, bad.reached, ap (λ (d : Content). d.op) same) in
    bad.lacks (rw parts at (readable.sound.tracks.pending n above reached))

-- ---- a link

-- the block that is reached in a chain is its link
pub link_there : (sh : Shape) (image : Units)
    (c : Content) (n index : ℕ) (read chain : List (ℕ × Block)) (address sum a k : ℕ) (block : Block) → Arrives image read address sum a k
    → n ≡ length read + (index + 1) → length chain ≡ n → Links (sh.layout.block_size - 256) c chain address sum
    → ((e : ℕ) (b : Block) → InChain e b chain → e ≤ sh.layout.blocks) → ((e : ℕ) (b : Block) → InChain e b chain
    → image (BlockPlace e) ≡ Some (BlockUnit b)) → image (BlockPlace a) ≡ Some (BlockUnit block) → IsLink sh c index block
link_there sh image c n index [] [] address sum a k block arrives count size links inside shows at = absurd (omega (arith, count, size))
link_there sh image c n index (r ∷ rs) [] address sum a k block arrives count size links inside shows at = absurd (omega (arith, count, size))
link_there sh image c n index [] (x ∷ xs) address sum a k block arrives count size links inside shows at =
    let place : a ≡ x.0 = arrives.0 ∙ sym links.1 in let both : Some (BlockUnit block) ≡ Some (BlockUnit x.1) =
    sym at ∙ ap (λ (e : ℕ). image (BlockPlace e)) place ∙ shows x.0 x.1 (inl (refl, refl)) in
    let same : x.1 ≡ block = cc in let here : length xs ≡ index = omega (arith, count, size) in
    rw same at (rw here at (first xs links inside))
  where
    first : (xs : List (ℕ × Block)) → Links (sh.layout.block_size - 256) c (x ∷ xs) address sum
        → ((e : ℕ) (b : Block) → InChain e b (x ∷ xs) → e ≤ sh.layout.blocks) → IsLink sh c (length xs) x.1
    first [] links inside = record { sequence = links.3; place = links.4; size = links.5; before = λ above. absurd (omega arith) }
    first (y ∷ ys) links inside = record { sequence = links.3; place = links.4; size = links.5; before = λ above. (links.7.0, omega (arith, inside y.0 y.1 (inr (inl (refl, refl))), links.7.1)) }
link_there sh image c n index (r ∷ rs) (x ∷ xs) address sum a k block arrives count size links inside shows at =
    let place : r.0 ≡ x.0 = arrives.1 ∙ sym links.1 in let both : Some (BlockUnit r.1) ≡ Some (BlockUnit x.1) =
    sym arrives.3 ∙ ap (λ (e : ℕ). image (BlockPlace e)) (sym links.1) ∙ shows x.0 x.1 (inl (refl, refl)) in let same : r.1 ≡ x.1 = cc in
    link_there sh image c
    (n - 1) index rs xs x.1.before x.1.before_checksum a k block (rw same at arrives.5) (omega (arith, count)) (omega (arith, size)) links.7
    (λ e b there. inside e b (inr there)) (λ e b there. shows e b (inr there)) at

pub broken_unreadable : BrokenIsUnreadable
broken_unreadable sh shown c at bad b same readable = let room : ℕ = sh.layout.block_size - 256 in let trailer = readable.sound.trailer in
    let counts : IsCount room c.trailer_size (length b.chain) = rw same at trailer.count in
    let one = count_le room c.trailer_size bad.reads.count (length b.chain) bad.reads.counts counts in
    let two = count_le room c.trailer_size (length b.chain) bad.reads.count counts bad.reads.counts in
    let links : Links room c b.chain c.trailer c.trailer_checksum = rw same at trailer.links in
    bad.broken (link_there sh shown.units c bad.reads.count bad.index bad.reads.read b.chain c.trailer c.trailer_checksum at bad.sum bad.block bad.reads.arrives bad.at (omega (arith, one, two)) links trailer.inside readable.shown (asked_is shown at bad.sum bad.block bad.is).shows)
