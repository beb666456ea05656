-- A whole chain whose text is read: what the text says of the blocks is what the grid adopts.
use Rattle.std.{proofs.Common.{◌≡◌, ℕ, ◌+◌, ◌-◌, ◌*◌, ◌^◌, ◌<◌, ◌≤◌, Option, Some, None, List, [], ◌∷◌, ◌++◌, length, map, min, refl, sym, ap, ◌∙◌, subst, arith, inl, inr, length-append}, specs.{Prelude.{◌≢◌, Result, Ok, Err}, List.{range_with_len}}}
use Rattle.{arrayvec.specs.ArrayVec.{ArrayVec}, df_disk.specs.Told.{Told}, df_layout.specs.declared.layout.Layout.{Layout}}
use Rattle.df_format.specs.{declared.superblock.SuperFields.{SuperFields}, Copies.{content_with}, SuperRules.{IsSuper}}
use Rattle.df_theory.specs.Units as model
use Rattle.df_theory.specs.{Units.{Block, Parts}, Shape.{Shape}, Trailer.{IsReference, Says, text_of}}
use Rattle.df_model.{specs.{Blocks.{Blocks, entries, pair_of}, Supply.{Shown}, Work.{is_known}}, proofs.Laws.{entries_same}}
use Rattle.df_units.{specs.{Meaning.{layout_of, number_of}, Superblocks.{AreFieldsOf}}, proofs.Laws.{usable_passes}}
use Rattle.df_trailer.{specs.{declared.fault.Fault.{Fault}, declared.reader.Reader.{Reader}, Reading.{HasRead, bytes_read, failing_in, kept_at}, Text.{fault, parse_of, parts_of, unless}}, proofs.Laws.{kept_said}}
use Rattle.df_grid.specs.{Grid.{GridState, HasAddress}, Reads.{shown_of}}
use Rattle.df_checkpoint.{specs.{declared.links.Link.{Link}, declared.fault.TrailerFault.{TrailerFault}, declared.fault.TrailerFault.TheVariants.{Damaged, BadField, DiskFault}, Adopting.{AdoptAnswer, LiveRefused}, Chain.{AreDistinctLinks, Names, OfTold, content_in}, Texts.{HasReadText, TextAnswer}, Reads.{ChainAnswer, FoundAnswer, IsAdopted, IsNamedChain, IsReferenced, blocks_read}}, proofs.{OneLink.{asked_is}, Walked.{among_there}, Complete.{chain_listed}}}
use Rattle.df_checkpoint.specs.Adopting as adopting

pub parse_said : (sh : Shape) (op : ℕ) (text : List ℕ)
    → sh.parse ≡ parse_of sh.layout → op ≤ 2 ^ 62 → fault sh.layout op text ≡ None → sh.parse op text ≡ Some (parts_of sh.layout text)
parse_said sh op text parse most fine = let least : min op (2 ^ 62) ≡ op = omega arith in
    ap (λ (p : ℕ → List ℕ → Option Parts). p op text) parse ∙ ap (λ (n : ℕ).
    unless (fault sh.layout n text) (parts_of sh.layout text)) least ∙ ap (λ (o : Option Fault). unless o (parts_of sh.layout text)) fine

pairs_named : (shown : Shown) (refs : List Link) (chain : List (ℕ × Block))
    → Names shown refs chain → map adopting.link_pair refs ≡ map pair_of chain
pairs_named shown [] [] names = refl
pairs_named shown [] (x ∷ xs) names = absurd names
pairs_named shown (r ∷ rs) [] names = absurd names
pairs_named shown (r ∷ rs) (x ∷ xs) names =
    ap (λ (l : List (ℕ × ℕ)). (r.address, number_of r.checksum) ∷ l) (pairs_named shown rs xs names.2)
    ∙ ap (λ (a : ℕ). (a, number_of r.checksum) ∷ map pair_of xs) (sym names.0)
    ∙ ap (λ (k : ℕ). (x.0, k) ∷ map pair_of xs) (sym (asked_is shown r.address (number_of r.checksum) x.1 names.1).sum)

-- a chain of a text that isn't empty has a block
says_it : (sh : Shape) (op room size : ℕ) (chain : List (ℕ × Block)) (parts : Parts)
    → 0 < size → size ≤ room * length chain → sh.parse op (text_of chain) ≡ Some parts → Says sh op chain parts
says_it sh op room size [] parts some holds is = absurd (omega arith)
says_it sh op room size (b ∷ bs) parts some holds is = is

abbrev both : List (ℕ × ℕ) → List (ℕ × ℕ) → Blocks
both xs ys = record { live = xs; captured = []; written = []; left = []; durable = xs; chain = ys }

module _ (sh : Shape) (g : GridState) (shown : Shown)
    (f : SuperFields) (refs : List Link) (reader : Reader) (same : sh.layout ≡ layout_of g.layout) (parse : sh.parse ≡ parse_of sh.layout)
    (fields : AreFieldsOf g.layout g.cluster f) (super : IsSuper f)
    (named : f.trailer_address ≢ 0) (apart : AreDistinctLinks g refs) (has : IsNamedChain sh shown (content_in f) refs)
    (read : HasRead g.layout f.op reader (text_of has.chain))
    (whole : failing_in reader ≡ None) (fine : fault (layout_of g.layout) f.op (text_of has.chain) ≡ None) where
  text : List ℕ
  text = text_of has.chain

  parts : Parts
  parts = parts_of sh.layout (text_of has.chain)

  says : sh.parse f.op (text_of has.chain) ≡ Some (parts_of sh.layout (text_of has.chain))
  says = parse_said sh f.op (text_of has.chain) parse super.op (ap (λ (l : model.Layout). fault l f.op (text_of has.chain)) same ∙ fine)

  -- what the reader keeps of a block is what the text says
  kept : (a : ℕ) → HasAddress g a → kept_at reader a ≡ (parts_of sh.layout (text_of has.chain)).references a
  kept a inside = kept_said g.layout f.op (text_of has.chain) reader a whole read inside.0 inside.1
      ∙ ap (λ (l : model.Layout). (parts_of l (text_of has.chain)).references a) (sym same)

  reference : IsReference sh.layout (content_in f)
  reference = subst (λ (l : model.Layout). IsReference l (content_in f)) (sym same)
      (usable_passes g.layout g.cluster (rw fields.cluster_is at super.cluster) (λ op t. None) (content_with f) fields super).1

  adopted_blocks : (h : GridState) → h.blocks ≡ adopting.chained (adopting.blocks_to (kept_at reader) (g.layout.blocks + 1)) refs
      → h.blocks ≡ blocks_read sh.layout (parts_of sh.layout (text_of has.chain)) has.chain
  adopted_blocks h is = let less : g.layout.blocks + 1 - 1 ≡ g.layout.blocks = omega arith in
      let blocks : g.layout.blocks ≡ sh.layout.blocks = ap (λ (l : model.Layout). l.blocks) (sym same) in is
      ∙ ap (λ (n : ℕ). both (entries (kept_at reader) (range_with_len 1 n)) (map adopting.link_pair refs)) less
      ∙ ap (λ (xs : List (ℕ × ℕ)). both xs (map adopting.link_pair refs)) (entries_same (kept_at reader)
      (parts_of sh.layout (text_of has.chain)).references 1 g.layout.blocks (λ a from to. kept a (from, omega (arith, to))))
      ∙ ap (λ (n : ℕ).
      both (entries (parts_of sh.layout (text_of has.chain)).references (range_with_len 1 n)) (map adopting.link_pair refs)) blocks
      ∙ ap (λ (ys : List (ℕ × ℕ)). both (entries (parts_of sh.layout (text_of has.chain)).references (range_with_len 1 sh.layout.blocks))
      ys) (pairs_named shown refs has.chain has.names)

  pub adopted_all : (h : GridState) (x : Unit {0}) → AdoptAnswer g h reader refs (Ok x) → IsAdopted sh shown (content_in f) h reader
  unfolding kept reference says
  adopted_all h x answer = record {
    chain = has.chain;
    parts = parts_of sh.layout (text_of has.chain);
    trailer = record {
      reference = reference;
      links = has.whole.links;
      count = has.whole.count;
      inside = has.whole.inside;
      size = has.whole.size;
      says = says_it sh f.op (sh.layout.block_size - 256)
          f.trailer_size has.chain (parts_of sh.layout (text_of has.chain)) (super.trailer_size named).0 has.whole.count.holds says;
      spare = λ a b at. let listed = chain_listed g shown refs has.chain a b has.names apart at in
          sym (kept a listed.inside) ∙ answer.1 a listed.inside listed.among;
    };
    shows = has.whole.shows;
    parts_are = refl;
    has = rw (sym (ap (λ (y : GridState). y.layout) answer.0)) at read;
    blocks = adopted_blocks h (ap (λ (y : GridState). y.blocks) answer.0);
  }

  pub refused_address : (at : ℕ) → LiveRefused g reader refs at → IsReferenced sh shown (content_in f) at
  refused_address at refused = let there = among_there shown refs has.chain at has.names refused.chained in record {
    chain = has.chain;
    whole = has.whole;
    parts = parts_of sh.layout (text_of has.chain);
    says = says;
    block = there.block;
    chained = there.inside;
    known = ap is_known (sym (kept at refused.inside)) ∙ refused.known;
    least = λ a b in_chain less. let listed = chain_listed g shown refs has.chain a b has.names apart in_chain in
        sym (kept a listed.inside) ∙ refused.least a listed.inside less listed.among;
  }

  pub adopt_answered : (h : GridState) (result : Result (Unit {0}) TrailerFault)
      → AdoptAnswer g h reader refs result → ChainAnswer sh shown (content_in f) h reader result
  adopt_answered h (Ok x) answer = adopted_all h x answer
  adopt_answered h (Err (Damaged address class)) answer = absurd answer
  adopt_answered h (Err (BadField field value)) answer = inr (inr (answer.0, refused_address value answer.2))
  adopt_answered h (Err DiskFault) answer = absurd answer

-- ---- the answer

-- the reading of the text ends the reading
pub text_refused : (g h : GridState) (told : Option Told) (f : SuperFields) (refs : List Link) (reader : Reader)
    (e : TrailerFault) (sh : Shape) → sh.layout ≡ layout_of g.layout → OfTold g told (λ shown. IsNamedChain sh shown (content_in f) refs)
    → TextAnswer g told refs f.op reader (Err e) → OfTold g told (λ shown. ChainAnswer sh shown (content_in f) h reader (Err e))
text_refused g h None f refs reader e sh same has answer = tt
text_refused g h (Some t) f refs reader (Damaged address class) sh same has answer = absurd (answer has.chain has.names)
text_refused g h (Some t) f refs reader (BadField field value) sh same has answer =
    inr (inl (record { chain = has.chain; whole = has.whole; fails = ap (λ (l : model.Layout). fault l f.op (text_of has.chain)) same ∙ answer has.chain has.names }))
text_refused g h (Some t) f refs reader DiskFault sh same has answer = tt

pub chain_refused : (g h : GridState) (told : Option Told) (f : SuperFields) (reader : Reader) (e : TrailerFault) (sh : Shape) → OfTold g told (λ shown. FoundAnswer sh shown (content_in f) (Err e)) → OfTold g told (λ shown. ChainAnswer sh shown (content_in f) h reader (Err e))
chain_refused g h None f reader e sh answer = tt
chain_refused g h (Some t) f reader (Damaged address class) sh answer = answer
chain_refused g h (Some t) f reader (BadField field value) sh answer = inl answer
chain_refused g h (Some t) f reader DiskFault sh answer = tt

-- and so does what the grid adopts
pub chain_adopted : (g h : GridState)
    (told : Option Told) (f : SuperFields) (refs : List Link) (reader : Reader) (result : Result (Unit {0}) TrailerFault) (sh : Shape)
    → sh.layout ≡ layout_of g.layout → sh.parse ≡ parse_of sh.layout → AreFieldsOf g.layout g.cluster f → IsSuper f → f.trailer_address ≢ 0
    → AreDistinctLinks g refs → OfTold g told (λ shown. IsNamedChain sh shown (content_in f) refs) → HasReadText g told refs f.op reader
    → AdoptAnswer g h reader refs result → OfTold g told (λ shown. ChainAnswer sh shown (content_in f) h reader result)
chain_adopted g h None f refs reader result sh same parse fields super named apart has text answer = tt
chain_adopted g h (Some t) f refs reader result sh same parse fields super named apart has text answer =
    let is : text.text ≡ text_of has.chain = text.is has.chain has.names in adopt_answered sh g (shown_of g.layout g.cluster t.shown)
    f refs reader same parse fields super named apart has (rw is at text.has) text.whole (rw is at text.fine) h result answer

-- ---- the same, of copies of the grid, of the disk and of the references

-- a reader that was fed nothing has read nothing
pub fresh_size : (layout : Layout) (op : ℕ) (reader : Reader) → HasRead layout op reader [] → bytes_read reader ≡ 0
fresh_size layout op reader has = let size = length-append reader.front.head.items has.kept.rest in
    let none : 0 ≡ length (reader.front.head.items ++ has.kept.rest) = ap (λ (l : List ℕ). length l) has.kept.is in
    let behind = has.kept.size in omega (arith, size, none, behind)

pub text_same : (g h : GridState) (told tell : Option Told)
    (refs rs : List Link) (op : ℕ) (old new : Reader) (result : Result (Unit {0}) TrailerFault) → h ≡ g → tell ≡ told → rs ≡ refs
    → ((op : ℕ) → HasRead h.layout op old [] → TextAnswer h tell rs op new result)
    → HasRead g.layout op old [] → TextAnswer g told refs op new result
text_same g h told tell refs rs op old new result one two three text fresh =
    subst (λ (t : Option Told). TextAnswer g t refs op new result) two (rw three at (rw one at (text op (rw (sym one) at fresh))))

pub adopt_same : (g h new : GridState) (refs rs : List Link) (reader : Reader) (result : Result (Unit {0}) TrailerFault)
    → h ≡ g → rs ≡ refs → AdoptAnswer h new reader rs result → AdoptAnswer g new reader refs result
adopt_same g h new refs rs reader result one two answer = subst (λ (l : List Link). AdoptAnswer g new reader l result) two (rw one at answer)

pub found_same : (g : GridState) (told : Option Told) (f e : SuperFields) (result : Result (ArrayVec Link) TrailerFault) (sh : Shape) → e ≡ f → OfTold g told (λ shown. FoundAnswer sh shown (content_in e) result) → OfTold g told (λ shown. FoundAnswer sh shown (content_in f) result)
found_same g told f e result sh same answer = rw same at answer
