-- The walk: what was read of the chain, with one link more, or where it ends.
use Rattle.std.{proofs.{Common.{◌≡◌, ℕ, ◌+◌, ◌-◌, ◌<◌, ◌==◌, ◌||◌, Bool, true, false, Option, Some, None, List, [], ◌∷◌, ◌++◌, length, refl, sym, ap, ◌∙◌, subst, arith, inl, inr, eqb-true, ne_eqb}, lemmas.Bool.Decides.{nat_tests}}, specs.Prelude.{Result, Ok, Err}}
use Rattle.{arrayvec.specs.ArrayVec.{ArrayVec}, df_disk.specs.Told.{Told}, df_layout.specs.declared.damage.Class.{Class}}
use Rattle.{df_format.specs.declared.superblock.SuperFields.{SuperFields}, df_model.specs.Supply.{Shown}}
use Rattle.df_theory.specs.Units as model
use Rattle.df_theory.{specs.{Units.{Block, BlockPlace, BlockUnit, Content}, Shape.{Shape}, Trailer.{InChain, IsCount}, Opens.{AreLinks, Arrives, IsLink, ReadsTo}}, proofs.Laws.{arrives_more, links_more}}
use Rattle.{df_units.specs.Meaning.{layout_of, number_of}, df_grid.specs.{Grid.{GridState, HasAddress}, Reads.{shown_of}}}
use Rattle.df_checkpoint.{specs.{declared.links.Link.{Link}, declared.fault.TrailerFault.{TrailerFault}, declared.fault.TrailerFault.TheVariants.{BadField, Damaged, DiskFault}, Chain.{AreDistinctLinks, HasWalked, IsBroken, IsLacking, IsTakenLink, LinkAnswer, Names, OfTold, StepAnswer, WalkAnswer, asked, content_in, is_among}}, proofs.OneLink.{asked_is}}

names_more : (shown : Shown) (refs : List Link) (chain : List (ℕ × Block)) (r : Link) (b : Block) → Names shown refs chain
    → asked shown r.address (number_of r.checksum) ≡ Ok b → Names shown (refs ++ r ∷ []) (chain ++ (r.address, b) ∷ [])
names_more shown [] [] r b names is = (refl, is, tt)
names_more shown [] (x ∷ xs) r b names is = absurd names
names_more shown (q ∷ qs) [] r b names is = absurd names
names_more shown (q ∷ qs) (x ∷ xs) r b names is = (names.0, names.1, names_more shown qs xs r b names.2 is)

pub names_length : (shown : Shown) (refs : List Link) (chain : List (ℕ × Block)) → Names shown refs chain → length chain ≡ length refs
names_length shown [] [] names = refl
names_length shown [] (x ∷ xs) names = absurd names
names_length shown (q ∷ qs) [] names = absurd names
names_length shown (q ∷ qs) (x ∷ xs) names = let more = names_length shown qs xs names.2 in omega arith

-- the blocks that were read have greater indexes than the one that is wanted
links_above : (sh : Shape) (c : Content) (n index : ℕ) (chain : List (ℕ × Block)) (a : ℕ) (b : Block)
    → AreLinks sh c n chain → n ≡ length chain + (index + 1) → InChain a b chain → index < b.index
links_above sh c n index [] a b are count at = absurd at
links_above sh c n index (x ∷ xs) a b are count (inl here) = let place : x.1.index ≡ are.0 = are.2.place in
    let same : b.index ≡ x.1.index = ap (λ (y : Block). y.index) here.1 in omega (arith, are.1)
links_above sh c n index (x ∷ xs) a b are count (inr later) = links_above sh c are.0 index xs a b are.3 (omega (arith, are.1)) later

-- an address that is among the references is in the chain, and its block is shown there
pub record IsThere (shown : Shown) (a : ℕ) (chain : List (ℕ × Block)) : Type 0 where
  pub block : Block
  pub inside : InChain a block chain
  pub shows : shown.units (BlockPlace a) ≡ Some (BlockUnit block)

pub among_there : (shown : Shown) (refs : List Link) (chain : List (ℕ × Block)) (a : ℕ)
    → Names shown refs chain → is_among a refs ≡ true → IsThere shown a chain
among_there shown [] [] a names is = absurd (cc)
among_there shown [] (x ∷ xs) a names is = absurd names
among_there shown (r ∷ rs) [] a names is = absurd names
among_there shown (r ∷ rs) (x ∷ xs) a names is = go (r.address == a) refl (λ more. among_there shown rs xs a names.2 more) is
  where
    go : (t : Bool) → (r.address == a) ≡ t → (is_among a rs ≡ true → IsThere shown a xs) → (t || is_among a rs) ≡ true → IsThere shown a (x ∷ xs)
    go true e rest is = record {
      block = x.1;
      inside = inl (sym (eqb-true r.address a e) ∙ sym names.0, refl);
      shows = ap (λ (n : ℕ). shown.units (BlockPlace n)) (sym (eqb-true r.address a e))
          ∙ (asked_is shown r.address (number_of r.checksum) x.1 names.1).shows;
    }
    go false e rest is = let more = rest is in record { block = more.block; inside = inr more.inside; shows = more.shows }

-- ---- one step

module _ (sh : Shape) (shown : Shown) (c : Content)
    (n index : ℕ) (refs : List Link) (at : Link) (walked : HasWalked sh shown c n refs at) (count : n ≡ length refs + (index + 1)) where
  size : length walked.chain ≡ length refs
  size = names_length shown refs walked.chain walked.names

  pub counted : n ≡ length walked.chain + (index + 1)
  counted = omega (arith, size)

  reads : IsCount (sh.layout.block_size - 256) c.trailer_size n → ReadsTo sh shown.units c at.address (number_of at.checksum)
  reads counts = record { count = n; read = walked.chain; counts = counts; arrives = walked.arrives; links = walked.links; more = omega (arith, counted) }

  pub step_taken : (before : Link) → 0 < at.address → IsTakenLink sh shown c index at before → HasWalked sh shown c n (refs ++ at ∷ []) before
  step_taken before above taken = let is = asked_is shown at.address (number_of at.checksum) taken.block taken.is in
      let P : ℕ → ℕ → Type 0 = λ a k. Arrives shown.units (walked.chain ++ (at.address, taken.block) ∷ []) c.trailer c.trailer_checksum a k in
      record {
        chain = walked.chain ++ (at.address, taken.block) ∷ [];
        names = names_more shown refs walked.chain at taken.block walked.names taken.is;
        arrives = rw taken.checksum (rw taken.address (arrives_more shown.units walked.chain (at.address, taken.block)
            c.trailer c.trailer_checksum at.address (number_of at.checksum) walked.arrives above refl is.sum is.kind is.shows));
        links = links_more sh c n index walked.chain (at.address, taken.block) walked.links counted taken.link;
      }

  pub step_lacking : (class : Class) → IsCount (sh.layout.block_size - 256) c.trailer_size n
      → asked shown at.address (number_of at.checksum) ≡ Err class → IsLacking sh shown c at.address class
  step_lacking class counts is = record { sum = number_of at.checksum; reads = reads counts; is = is }

  pub step_broken : (block : Block) → IsCount (sh.layout.block_size - 256) c.trailer_size n
      → asked shown at.address (number_of at.checksum) ≡ Ok block → (IsLink sh c index block → ⊥) → IsBroken sh shown c at.address
  unfolding reads
  step_broken block counts is broken =
      record { sum = number_of at.checksum; reads = reads counts; index = index; at = counted; block = block; is = is; broken = broken }

  pub not_again : (before : Link) → IsTakenLink sh shown c index at before → is_among at.address refs ≡ true → ⊥
  not_again before taken again = let there = among_there shown refs walked.chain at.address walked.names again in
      let above = links_above sh c n index walked.chain at.address there.block walked.links counted there.inside in
      let is = asked_is shown at.address (number_of at.checksum) taken.block taken.is in
      let both : Some (BlockUnit there.block) ≡ Some (BlockUnit taken.block) = sym there.shows ∙ is.shows in
      let same : there.block ≡ taken.block = cc in let place : taken.block.index ≡ index = taken.link.place in
      let one : there.block.index ≡ taken.block.index = ap (λ (y : Block). y.index) same in omega (arith, above, place, one)

-- what a step says
abbrev pub Step : GridState → Option Told → SuperFields → ℕ → List Link → Link → List Link → Result Link TrailerFault → Type 0
Step g told f index refs at new result = (sh : Shape) → sh.layout ≡ layout_of g.layout
    → OfTold g told (λ shown. (n : ℕ) → IsCount (g.layout.block_size - 256) f.trailer_size n → n ≡ length refs + (index + 1)
    → HasWalked sh shown (content_in f) n refs at → StepAnswer sh shown (content_in f) n index new result)

-- what a link says
abbrev pub Answer : GridState → Option Told → SuperFields → ℕ → Link → Result Link TrailerFault → Type 0
Answer g told f index at result = (sh : Shape)
    → sh.layout ≡ layout_of g.layout → OfTold g told (λ shown. LinkAnswer sh shown (content_in f) index at result)

wide : (sh : Shape) (g : GridState) (f : SuperFields) (n : ℕ) → sh.layout ≡ layout_of g.layout
    → IsCount (g.layout.block_size - 256) f.trailer_size n → IsCount (sh.layout.block_size - 256) f.trailer_size n
wide sh g f n same counts = subst (λ (l : model.Layout). IsCount (l.block_size - 256) f.trailer_size n) (sym same) counts

-- a link that is refused ends the walk
pub step_refused : (g : GridState) (told : Option Told) (f : SuperFields) (index : ℕ) (refs : List Link)
    (at : Link) (new : List Link) (e : TrailerFault) → Answer g told f index at (Err e) → Step g told f index refs at new (Err e)
step_refused g None f index refs at new e answer sh same = tt
step_refused g (Some t) f index refs at new (Damaged address class) answer sh same = λ n counts count walked. let a = answer sh same in
    subst (λ (x : ℕ). IsLacking sh (shown_of g.layout g.cluster t.shown) (content_in f) x class) (sym a.0) (step_lacking
    sh (shown_of g.layout g.cluster t.shown) (content_in f) n index refs at walked count class (wide sh g f n same counts) a.1)
step_refused g (Some t) f index refs at new (BadField field value) answer sh same = λ n counts count walked. let a = answer sh same in
    (a.0, rw (sym a.1) at (step_broken sh (shown_of g.layout g.cluster t.shown) (content_in f) n index refs at walked count a.2.block (wide sh g f n same counts) a.2.is a.2.broken))
step_refused g (Some t) f index refs at new DiskFault answer sh same = λ n counts count walked. tt

-- a link isn't read twice
pub step_again : (g : GridState)
    (told : Option Told) (f : SuperFields) (index : ℕ) (refs : List Link) (at : Link) (new : List Link) (before : Link) (e : TrailerFault)
    → Answer g told f index at (Ok before) → is_among at.address refs ≡ true → Step g told f index refs at new (Err e)
step_again g None f index refs at new before e answer again sh same = tt
step_again g (Some t) f index refs at new before e answer again sh same = λ n counts count walked.
    absurd (not_again sh (shown_of g.layout g.cluster t.shown) (content_in f) n index refs at walked count before (answer sh same) again)

-- a link that is taken goes after the others
pub step_more : (g : GridState)
    (told : Option Told) (f : SuperFields) (index : ℕ) (refs : List Link) (at : Link) (new : List Link) (before : Link)
    → Answer g told f index at (Ok before) → HasAddress g at.address → new ≡ refs ++ at ∷ [] → Step g told f index refs at new (Ok before)
step_more g None f index refs at new before answer inside more sh same = tt
step_more g (Some t) f index refs at new before answer inside more sh same = λ n counts count walked. let a = answer sh same in
    (rw (sym more) at (step_taken sh (shown_of g.layout g.cluster t.shown) (content_in f) n index refs at walked count before (omega (arith, inside.0)) a), a.first)

among_last : (a : ℕ) (refs : List Link) (r : Link) → is_among a refs ≡ false → (r.address ≡ a → ⊥) → is_among a (refs ++ r ∷ []) ≡ false
among_last a [] r none apart = ap (λ (t : Bool). t || false) (ne_eqb r.address a apart)
among_last a (q ∷ qs) r none apart = go (q.address == a) (λ rest. among_last a qs r rest apart) none
  where
    go : (t : Bool) → (is_among a qs ≡ false → is_among a (qs ++ r ∷ []) ≡ false)
        → (t || is_among a qs) ≡ false → (t || is_among a (qs ++ r ∷ [])) ≡ false
    go true rest none = absurd (cc)
    go false rest none = rest none

-- addresses stay apart with one more that isn't among them
pub apart_more : (g : GridState) (refs : List Link) (r : Link)
    → AreDistinctLinks g refs → HasAddress g r.address → is_among r.address refs ≡ false → AreDistinctLinks g (refs ++ r ∷ [])
apart_more g [] r apart inside none = (inside, refl, tt)
apart_more g (q ∷ qs) r apart inside none = go (q.address == r.address) refl (λ rest. apart_more g qs r apart.2 inside rest) none
  where
    go : (t : Bool) → (q.address == r.address) ≡ t → (is_among r.address qs ≡ false → AreDistinctLinks g (qs ++ r ∷ []))
        → (t || is_among r.address qs) ≡ false → AreDistinctLinks g ((q ∷ qs) ++ r ∷ [])
    go true e rest none = absurd (cc)
    go false e rest none = (apart.0, among_last q.address qs r apart.1 (λ same. grind (arith, nat_tests)), rest none)

-- ---- the whole walk

-- what was read so far
abbrev pub Walks : GridState → Option Told → SuperFields → (count done : ℕ) → List Link → Link → Type 0
Walks g told f count done refs at = (sh : Shape) → sh.layout ≡ layout_of g.layout
    → OfTold g told (λ shown. HasWalked sh shown (content_in f) count refs at × (done ≡ count → at.address ≡ 0))

-- what the walk answers
abbrev pub Whole : GridState → Option Told → SuperFields → ℕ → Result (ArrayVec Link) TrailerFault → Type 0
Whole g told f count result = (sh : Shape)
    → sh.layout ≡ layout_of g.layout → OfTold g told (λ shown. WalkAnswer sh shown (content_in f) count result)

same_step : (g h : GridState) (told tell : Option Told) (f : SuperFields) (index : ℕ) (refs : List Link) (at : Link) (new : List Link) (result : Result Link TrailerFault) → g ≡ h → told ≡ tell → Step g told f index refs at new result → Step h tell f index refs at new result
same_step g h told tell f index refs at new result e d step = subst (λ (t : Option Told). Step h t f index refs at new result) d (rw e at step)

-- the walk ends where a step does
pub walk_refused : (g h : GridState) (told tell : Option Told) (f : SuperFields) (count done index : ℕ)
    (refs : List Link) (at : Link) (new : List Link) (e : TrailerFault) → g ≡ h → told ≡ tell → Step g told f index refs at new (Err e)
    → IsCount (h.layout.block_size - 256) f.trailer_size count
    → count ≡ length refs + (index + 1) → Walks h tell f count done refs at → Whole h tell f count (Err e)
walk_refused g h told tell f count done index refs at new e same_grid same_told step counts size walks =
    go tell e (same_step g h told tell f index refs at new (Err e) same_grid same_told step) walks
  where
    go : (t : Option Told) (e : TrailerFault)
        → Step h t f index refs at new (Err e) → Walks h t f count done refs at → Whole h t f count (Err e)
    go None e step walks sh same = tt
    go (Some t) (Damaged address class) step walks sh same = step sh same count counts size (walks sh same).0
    go (Some t) (BadField field value) step walks sh same = step sh same count counts size (walks sh same).0
    go (Some t) DiskFault step walks sh same = tt

pub walk_more : (g h : GridState) (told tell : Option Told) (f : SuperFields) (count done index : ℕ)
    (refs : List Link) (at : Link) (new : List Link) (before : Link) → g ≡ h → told ≡ tell → Step g told f index refs at new (Ok before)
    → IsCount (h.layout.block_size - 256) f.trailer_size count → count ≡ length refs + (index + 1)
    → length refs ≡ done → Walks h tell f count done refs at → Walks h tell f count (done + 1) new before
walk_more g h told tell f count done index refs at new before same_grid same_told step counts size here walks =
    go tell (same_step g h told tell f index refs at new (Ok before) same_grid same_told step) walks
  where
    go : (t : Option Told) → Step h t f index refs at new (Ok before) → Walks h t f count done refs at → Walks h t f count (done + 1) new before
    go None step walks sh same = tt
    go (Some t) step walks sh same = let a = step sh same count counts size (walks sh same).0 in
        (a.0, λ last. a.1 (omega (arith, last, size, here)))

pub walk_done : (g : GridState) (told : Option Told) (f : SuperFields) (count done : ℕ) (blocks : ArrayVec Link) (at : Link)
    → Walks g told f count done blocks.items at → length blocks.items ≡ count → done ≡ count → Whole g told f count (Ok blocks)
walk_done g None f count done blocks at walks size all sh same = tt
walk_done g (Some t) f count done blocks at walks size all sh same =
    record { next = at; walked = (walks sh same).0; all = size; ends = (walks sh same).1 all }
