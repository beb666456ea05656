-- A chain that was walked is whole: its blocks are links from the last to the first, and their bodies are a text of the superblock's size.
use Rattle.std.{proofs.{Common.{◌≡◌, ℕ, suc, ◌+◌, ◌-◌, ◌*◌, ◌≤◌, ◌==◌, ◌||◌, Bool, true, false, Option, Some, None, List, [], ◌∷◌, length, min, refl, sym, ap, ◌∙◌, arith, inl, inr, length-append}, lemmas.Bool.{eq-eqb}}, specs.Prelude.{Result, Ok, Err, IfOk}}
use Rattle.{arrayvec.specs.ArrayVec.{ArrayVec}, df_disk.specs.Told.{Told}, df_format.specs.declared.superblock.SuperFields.{SuperFields}}
use Rattle.df_theory.specs.Units as model
use Rattle.df_theory.specs.{Units.{Block, BlockPlace, BlockUnit, Content, Units}, Shape.{Shape}, Trailer.{InChain, IsCount, Links, piece_size, text_of}, Opens.{AreLinks, Arrives}}
use Rattle.{df_model.specs.Supply.{Shown}, df_units.specs.Meaning.{layout_of, number_of}}
use Rattle.df_grid.specs.{Grid.{GridState, HasAddress}, Reads.{shown_of}}
use Rattle.df_checkpoint.{specs.{declared.links.Link.{Link}, declared.fault.TrailerFault.{TrailerFault}, declared.fault.TrailerFault.TheVariants.{Damaged, BadField, DiskFault}, Chain.{AreDistinctLinks, HasChain, Names, OfTold, content_in, is_among}, Reads.{FoundAnswer, IsNamedChain}}, proofs.{OneLink.{asked_is}, Walked.{Whole, names_length}}}

links_walked : (sh : Shape) (image : Units) (c : Content) (n : ℕ) (chain : List (ℕ × Block)) (address sum a k : ℕ) → Arrives
    image chain address sum a k → a ≡ 0 → AreLinks sh c n chain → length chain ≡ n → Links (sh.layout.block_size - 256) c chain address sum
links_walked sh image c n [] address sum a k arrives ends are all = sym arrives.0 ∙ ends
links_walked sh image c n (b ∷ bs) address sum a k arrives ends are all = let rest : length bs ≡ are.0 = omega (arith, are.1, all) in (
  arrives.0,
  arrives.1,
  arrives.2,
  are.2.sequence,
  are.2.place ∙ sym rest,
  are.2.size ∙ ap (λ (i : ℕ). piece_size (sh.layout.block_size - 256) c.trailer_size i) (sym rest),
  arrives.4,
  links_walked sh image c are.0 bs b.1.before b.1.before_checksum a k arrives.5 ends are.3 rest,
)

-- the block of an address of the chain is shown there, and the address is among the references
pub record IsListed (g : GridState) (shown : Shown) (refs : List Link) (a : ℕ) (b : Block) : Type 0 where
  pub inside : HasAddress g a
  pub among : is_among a refs ≡ true
  pub shows : shown.units (BlockPlace a) ≡ Some (BlockUnit b)

pub chain_listed : (g : GridState) (shown : Shown) (refs : List Link) (chain : List (ℕ × Block)) (a : ℕ) (b : Block)
    → Names shown refs chain → AreDistinctLinks g refs → InChain a b chain → IsListed g shown refs a b
chain_listed g shown [] [] a b names apart at = absurd at
chain_listed g shown [] (x ∷ xs) a b names apart at = absurd names
chain_listed g shown (r ∷ rs) [] a b names apart at = absurd names
chain_listed g shown (r ∷ rs) (x ∷ xs) a b names apart (inl here) = let same : a ≡ r.address = here.0 ∙ names.0 in record {
  inside = rw (sym same) at apart.0;
  among = ap (λ (t : Bool). t || is_among a rs) (eq-eqb r.address a (sym same));
  shows = ap (λ (n : ℕ). shown.units (BlockPlace n)) same
      ∙ (asked_is shown r.address (number_of r.checksum) x.1 names.1).shows ∙ ap (λ (y : Block). Some (BlockUnit y)) (sym here.1);
}
chain_listed g shown (r ∷ rs) (x ∷ xs) a b names apart (inr later) = let more = chain_listed g shown rs xs a b names.2 apart.2 later in
    record { inside = more.inside; among = or_later (r.address == a) more.among; shows = more.shows }
  where
    or_later : (t : Bool) → is_among a rs ≡ true → (t || is_among a rs) ≡ true
    or_later true is = refl
    or_later false is = is

text_sized : (room : ℕ) (c : Content) (chain : List (ℕ × Block)) (address sum : ℕ)
    → Links room c chain address sum → length (text_of chain) ≡ min c.trailer_size (room * length chain)
text_sized room c [] address sum links = none room c.trailer_size
  where
    none : (room n : ℕ) → 0 ≡ min n (room * 0)
    none room n = omega arith
text_sized room c (b ∷ bs) address sum links = let rest = text_sized room c bs b.1.before b.1.before_checksum links.7 in
    length-append (text_of bs) b.1.body ∙ more room c.trailer_size (length bs) (length (text_of bs)) (length b.1.body) rest links.5
  where
    more : (room size m text body : ℕ) → text ≡ min size (room * m) → body ≡ min room (size - room * m) → text + body ≡ min size (room * suc m)
    more room size m text body is piece = omega arith

pub whole_is : (sh : Shape) (g : GridState) (shown : Shown) (c : Content) (n : ℕ) (refs : List Link) → sh.layout ≡ layout_of g.layout → IsCount (sh.layout.block_size - 256) c.trailer_size n → AreDistinctLinks g refs → HasChain sh shown c n refs → IsNamedChain sh shown c refs
whole_is sh g shown c n refs same counts apart has = let w = has.walked in
    let all : length w.chain ≡ n = names_length shown refs w.chain w.names ∙ has.all in let links = links_walked
    sh shown.units c n w.chain c.trailer c.trailer_checksum has.next.address (number_of has.next.checksum) w.arrives has.ends w.links all in
    record {
      chain = w.chain;
      names = w.names;
      whole = record {
        links = links;
        count = rw (sym all) at counts;
        inside = λ a b at. rw same (chain_listed g shown refs w.chain a b w.names apart at).inside.1;
        size = text_sized (sh.layout.block_size - 256) c w.chain c.trailer c.trailer_checksum links
            ∙ full (sh.layout.block_size - 256) c.trailer_size (length w.chain) (rw (sym all) at counts.holds);
        shows = λ a b at. (chain_listed g shown refs w.chain a b w.names apart at).shows;
      };
    }
  where
    full : (room size n : ℕ) → size ≤ room * n → min size (room * n) ≡ size
    full room size n holds = omega arith

pub found_answer : (g : GridState) (told : Option Told) (f : SuperFields) (count : ℕ) (result : Result (ArrayVec Link) TrailerFault) → IsCount (g.layout.block_size - 256) f.trailer_size count → IfOk result (λ blocks. AreDistinctLinks g blocks.items) → Whole g told f count result
    → (sh : Shape) → sh.layout ≡ layout_of g.layout → OfTold g told (λ shown. FoundAnswer sh shown (content_in f) result)
found_answer g None f count result counts apart walked sh same = tt
found_answer g (Some t) f count (Ok blocks) counts apart walked sh same =
    whole_is sh g (shown_of g.layout g.cluster t.shown) (content_in f) count blocks.items same (rw same counts) apart (walked sh same)
found_answer g (Some t) f count (Err (Damaged address class)) counts apart walked sh same = walked sh same
found_answer g (Some t) f count (Err (BadField field value)) counts apart walked sh same = walked sh same
found_answer g (Some t) f count (Err DiskFault) counts apart walked sh same = tt
