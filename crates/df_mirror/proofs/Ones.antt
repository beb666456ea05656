-- An image shows one trailer, and each block that is wanted of it is one of its chain.
use Rattle.std.proofs.Common.{◌≡◌, ℕ, ◌-◌, ◌<◌, List, [], ◌∷◌, length, Some, refl, sym, ◌∙◌, arith, inl, inr}
use Rattle.{df_sessions.specs.declared.session.Session.{Session}, df_grid.specs.Grid.{GridState}, df_model.proofs.Laws.{count_le}}
use Rattle.df_theory.{specs.{Opens.{Arrives, ReadsTo}, Sessions.{Has}, Shape.{Shape}, Trailer.{InChain, Links, Says}, Units.{Block, BlockPlace, BlockUnit, Content, Units}}, proofs.Laws.{same_says}}
use Rattle.df_theory.specs.Units as model
use Rattle.{df_checkpoint.proofs.Laws.{one_block}, df_opening.specs.Below.{shape}}
use Rattle.df_mirror.specs.{declared.superblock.Superblock.{Superblock}, Known.{PassesTrailer, ShowsTrailer}, Walks.{HasTrailerText, HasWaiting, content_of_superblock}}

abbrev Shown : Units → List (ℕ × Block) → Type 0
Shown image xs = (a : ℕ) (b : Block) → InChain a b xs → image (BlockPlace a) ≡ Some (BlockUnit b)

-- chains from one reference that an image shows are one
pub one_chain : (image : Units) (room : ℕ) (c : Content) (xs ys : List (ℕ × Block)) (address sum : ℕ)
    → Links room c xs address sum → Links room c ys address sum → Shown image xs → Shown image ys → xs ≡ ys
one_chain image room c [] [] address sum one two shown also = refl
one_chain image room c [] (y ∷ ys) address sum one two shown also = absurd (omega (arith, one, two.0))
one_chain image room c (x ∷ xs) [] address sum one two shown also = absurd (omega (arith, two, one.0))
one_chain image room c (x ∷ xs) (y ∷ ys) address sum one two shown also = let place : x.0 ≡ y.0 = one.1 ∙ sym two.1 in
    let block : x.1 ≡ y.1 = one_block image x.0 y.0 x.1 y.1 place (shown x.0 x.1 (inl (refl, refl))) (also y.0 y.1 (inl (refl, refl))) in
    let later : Links room c ys x.1.before x.1.before_checksum = rw (sym block) at two.7 in let rest : xs ≡ ys =
    one_chain image room c xs ys x.1.before x.1.before_checksum one.7 later (λ a b at. shown a b (inr at)) (λ a b at. also a b (inr at)) in
    λ i. (place i, block i) ∷ rest i

pub one_trailer : (sh : Shape) (image : Units) (c : Content) (one two : ShowsTrailer sh image c) → one.parts ≡ two.parts
one_trailer sh image c one two = let chain = one_chain image (sh.layout.block_size - 256)
    c one.chain two.chain c.trailer c.trailer_checksum one.trailer.links two.trailer.links one.shown two.shown in
    same_says sh c.op two.chain one.parts two.parts (rw chain at one.trailer.says) two.trailer.says

-- a walk that is shorter than the chain wants a block of it
wants : (image : Units) (room : ℕ) (c : Content) (xs ys : List (ℕ × Block)) (address sum a k : ℕ)
    → Links room c xs address sum → Shown image xs → Arrives image ys address sum a k → length ys < length xs → (b : Block) × InChain a b xs
wants image room c [] ys address sum a k links shown arrives less = absurd (omega (arith, less))
wants image room c (x ∷ xs) [] address sum a k links shown arrives less = (x.1, inl (arrives.0 ∙ sym links.1, refl))
wants image room c (x ∷ xs) (y ∷ ys) address sum a k links shown arrives less =
    let same : y.1 ≡ x.1 = one_block image address x.0 y.1 x.1 (sym links.1) arrives.3 (shown x.0 x.1 (inl (refl, refl))) in
    let rest = wants image room c xs ys x.1.before x.1.before_checksum a k links.7 (λ e b at.
    shown e b (inr at)) (rw same at arrives.5) (omega (arith, less)) in (rest.0, inr rest.1)

pub wanted_block : (sh : Shape) (image : Units) (c : Content) (says : ShowsTrailer sh image c) (a k : ℕ)
    → ReadsTo sh image c a k → (b : Block) × InChain a b says.chain
wanted_block sh image c says a k reads = let room : ℕ = sh.layout.block_size - 256 in
    let most = count_le room c.trailer_size reads.count (length says.chain) reads.counts says.trailer.count in wants image room
    c says.chain reads.read c.trailer c.trailer_checksum a k says.trailer.links says.shown reads.arrives (omega (arith, reads.more, most))

-- a trailer is shown wherever its chain is
abbrev pub trailer_there : (sh : Shape) (image other : Units) (c : Content) (says : ShowsTrailer sh image c)
    → ((a : ℕ) (b : Block) → InChain a b says.chain → other (BlockPlace a) ≡ image (BlockPlace a)) → ShowsTrailer sh other c
trailer_there sh image other c says same =
    record { chain = says.chain; parts = says.parts; trailer = says.trailer; shown = λ a b at. same a b at ∙ says.shown a b at }

-- a trailer that is read, and each of whose waiting ops is that of a session, passes the tests of an open
pub trailer_passes : (b : Superblock) (image : Units) (grid : GridState) (ss : List Session)
    → HasTrailerText b image grid ss → HasWaiting b ss → PassesTrailer (shape b.file) image (content_of_superblock b)
trailer_passes b image grid ss text waiting =
    record { says = text.says; pending = λ n above within. rw (sym text.sessions_are) at (waiting n above within) }

-- and so it does wherever its chain is shown
pub passes_there : (sh : Shape) (image other : Units) (c : Content)
    → ((a : ℕ) → other (BlockPlace a) ≡ image (BlockPlace a)) → PassesTrailer sh image c → PassesTrailer sh other c
passes_there sh image other c same passes =
    record { says = trailer_there sh image other c passes.says (λ a b at. same a); pending = passes.pending }
