-- One link of the chain, as a step of the walk.
use Rattle.std.{proofs.{Common.{◌≡◌, ℕ, ◌+◌, ◌-◌, ◌<◌, ◌==◌, ◌||◌, Bool, true, false, List, [], ◌∷◌, ◌++◌, length, map, Option, Some, None, refl, sym, ◌∙◌, ap, subst, arith, inl, inr}, lemmas.Bool.{cases_eq}, lemmas.List.{length-map, map-append}, lemmas.Option.{same_Some}}, specs.{Prelude.{Result, Ok, Err, IfOk}, List.{list_any}}}
use Rattle.{df_disk.specs.Told.{Told}, df_layout.specs.declared.fields.Field.TheVariants.{TrailerChain}, df_opening.specs.Below.{shape}}
use Rattle.df_format.specs.{declared.kind.Kind.TheVariants.{Trailer}, Message.{Message}, Spelling.{IsCheck}}
use Rattle.{df_checkpoint.specs.{declared.links.Link.{Link}, Chain.{before_of, is_among}}, df_grid.specs.Reads.{at_address, shown_of}}
use Rattle.df_buffers.specs.{declared.identity.Identity.{Identity}, Sounds.{Holding}}
use Rattle.df_model.specs.declared.errors.OpenError.TheVariants.{BadField}
use Rattle.df_theory.{specs.{Opens.{Arrives, IsLink, ReadsTo}, Trailer.{InChain, IsCount}, Units.{AnyUnit, Block, BlockPlace, BlockUnit, Units}}, proofs.Laws.{arrives_more, links_more}}
use Rattle.df_units.specs.{Meaning.{block_of, number_of}, Wanted.{IsOfKind, checksum_of}}
use Rattle.df_mirror.{specs.{declared.trailer.Walk.{Walk}, declared.ending.Ending.{Ending}, declared.ending.Ending.TheVariants.{First, Neither, Second, Sink, Unopened}, declared.superblock.Superblock.{Superblock}, Known.{IsDue}, Mends.{AreOfKind, IsRefusal}, Outside.{Outside, Tell}, Refusals.{RefusesFirstTrailer}, Taking.{HoldsShown, MendsUnit, ShowsUnit}, Walks.{HasWalkedChain, IsOfChain, Mended, broken_at, content_of_superblock, superblock_units}}, proofs.{Chains.{among, arrives_there, asked_shown, chain_named, chain_spare, not_among, not_wanted, read_shown}, Frames.{other_place}, Joined.{came_with, kind_at, none_came}, Orders.{before_trailer}, Turns.{MendsDue, due_mended, lent_shown, of_one}}}

-- the references have an address where their addresses do
among_map : (a : ℕ) (refs : List Link) → is_among a refs ≡ list_any (λ other. other == a) (map (λ r. r.address) refs)
among_map a [] = refl
among_map a (r ∷ rs) = ap (λ (b : Bool). (r.address == a) || b) (among_map a rs)

-- the block of the trailer that an image shows
pub record IsThere (image : Units) (a k : ℕ) (u : Message) : Type 0 where
  pub shown : image (BlockPlace a) ≡ Some (BlockUnit (block_of u))
  pub sum : (block_of u).checksum ≡ k
  pub kind : (block_of u).kind ≡ 0

pub it_is_there : (b : Superblock) (a : ℕ) (check : List ℕ) (t : Told) (u : Message)
    → ShowsUnit b.file Trailer (BlockPlace a) check t.shown u → IsThere (superblock_units b t.shown) a (number_of check) u
it_is_there b a check t u is = let same : is.unit ≡ BlockUnit (block_of u) = same_Some _ _ (sym is.unit_is) in record {
  shown = is.shown ∙ sym is.unit_is;
  sum = sym (ap checksum_of same) ∙ is.sum_is;
  kind = rw same at is.of_kind;
}

-- what isn't refused isn't broken
pub unrefused_chain : (e : Ending) → (IsRefusal (Err e) → ⊥) → IsOfChain e
unrefused_chain First other = tt
unrefused_chain Second other = tt
unrefused_chain Sink other = tt
unrefused_chain (Neither place class) other = tt
unrefused_chain (Unopened e) other = absurd (other tt)

-- the block is the link with this index, and the walk goes on to the block that it names
abbrev pub GoesOn : Superblock → (walk : Walk) → ℕ → Message → (next : Walk) → Type 0
GoesOn b walk index u next = IsLink (shape b.file) (content_of_superblock b) index (block_of u) × (next.at ≡ before_of u) ×
    (next.read.items ≡ walk.read.items ++ walk.at ∷ [])

module _ (b : Superblock) (n index : ℕ) (walk : Walk) (t o : Told) (counts : IsCount (b.file.layout.block_size - 256) b.content.trailer_size
    n) (size : n ≡ length walk.read.items + (index + 1)) (walked : HasWalkedChain b (superblock_units b t.shown) n walk) where
  pub counted : n ≡ length walked.chain + (index + 1)
  counted = size ∙ ap (λ (m : ℕ).
      m + (index + 1)) (sym (length-map walk.read.items (λ r. r.address)) ∙ ap length walked.addresses ∙ length-map walked.chain (λ x. x.0))

  some_more : length walked.chain < n
  some_more = omega (arith, counted)

  abbrev Its : ReadsTo (shape b.file) (superblock_units b t.shown) (content_of_superblock b) walk.at.address (number_of walk.at.checksum)
  Its = record { count = n; read = walked.chain; counts = counts; arrives = walked.arrives; links = walked.links; more = some_more }

  -- an address is one of those that were read where it is one of the chain's
  among_walked : (read : List Link)
      → read ≡ walk.read.items → is_among walk.at.address read ≡ list_any (λ other. other == walk.at.address) (map (λ x. x.0) walked.chain)
  among_walked read same = ap (is_among walk.at.address) same
      ∙ among_map walk.at.address walk.read.items ∙ ap (λ (l : List ℕ). list_any (λ other. other == walk.at.address) l) walked.addresses

  -- the chain comes to an address again: with the checksum of the block there it isn't the link that is wanted, and with another one it
  -- can't be shown
  comes_again : (x : Block) → InChain walk.at.address x walked.chain
      → 0 < walk.at.address → RefusesFirstTrailer b.file t.shown (content_of_superblock b) (BadField TrailerChain walk.at.address)
  comes_again x at above = (
    chain_named (superblock_units b t.shown) walked.chain (content_of_superblock b).trailer
        (content_of_superblock b).trailer_checksum walk.at.address (number_of walk.at.checksum) walked.arrives above,
    elim (cases_eq x.checksum (number_of walk.at.checksum)) [
      | inl one ↦ let there = read_shown (superblock_units b t.shown) walked.chain (content_of_superblock b).trailer
          (content_of_superblock b).trailer_checksum walk.at.address (number_of walk.at.checksum) walk.at.address x walked.arrives at in
          inl (inl (
            refl,
            record {
              sum = number_of walk.at.checksum;
              reads = Its;
              index = index;
              at = counted;
              block = x;
              is = asked_shown
                  (shown_of b.file.layout b.file.cluster t.shown) walk.at.address (number_of walk.at.checksum) x there.0 one there.1;
              broken = not_wanted (shape b.file) (content_of_superblock b) n index walked.chain walk.at.address x walked.links at counted;
            },
          ))
      | inr other ↦ inr (refl, record { sum = number_of walk.at.checksum; reads = Its; block = x; chained = at; other = other })
    ],
  )

  pub link_again : (read : List Link) → read ≡ walk.read.items → is_among walk.at.address read ≡ true → 0 < walk.at.address → (old : Outside) (e : Ending) (Shows : Units → Type 0) → Tell t o old → e ≡ broken_at walk.at.address → Mended b (AreOfKind Trailer) t o old old (Err e) Shows
  link_again read same some above old e Shows tell is =
      let there = among walked.chain walk.at.address (sym (among_walked read same) ∙ some) in
      subst (λ (x : Ending). Mended b (AreOfKind Trailer) t o old old (Err x) Shows) (sym is) (record {
        answers = none_came b.file (content_of_superblock b) (AreOfKind Trailer) tt t o old.first old.written old.written tell.first refl (λ ms m. AreOfKind Trailer ms × RefusesFirstTrailer b.file m.shown (content_of_superblock b) (BadField TrailerChain walk.at.address)) (tt, comes_again there.0 there.1 above);
        shown = λ u is. tt;
      })

  module _ (read : List Link) (same_read : read ≡ walk.read.items) (fresh : is_among walk.at.address read ≡ false) where
    apart : (e : ℕ) (x : Block) → InChain e x walked.chain → e ≡ walk.at.address → ⊥
    apart e x at = not_among walked.chain walk.at.address e x (sym (among_walked read same_read) ∙ fresh) at

    link_due : IsDue (shape b.file)
        (superblock_units b t.shown) (content_of_superblock b) Trailer (BlockPlace walk.at.address) (number_of walk.at.checksum)
    link_due = record {
      known = Its;
      first = before_trailer (shape b.file) (superblock_units b t.shown) (content_of_superblock b) (BlockPlace walk.at.address);
      trailer = tt;
      spare = λ lacks. chain_spare (shape b.file) (superblock_units b t.shown) (content_of_superblock b)
          n walked.chain walk.at.address (number_of walk.at.checksum) counts walked.arrives walked.links some_more apart lacks;
    }

    module _ (identity : Identity) (is_at : identity ≡ at_address b.file.layout b.file.cluster walk.at.address walk.at.checksum)
        (fits : IsCheck walk.at.checksum) (old new : Outside) (tell : Tell t o old) where
      due : (shelf : Option Holding) (result : Result ℕ Ending)
          → MendsUnit Trailer identity old new result → IfOk result (λ n. HoldsShown Trailer identity old.first new.first shelf)
          → MendsDue b Trailer (BlockPlace walk.at.address) walk.at.checksum t o old new shelf result
      due shelf result mends shown = due_mended b Trailer (BlockPlace walk.at.address)
          walk.at.checksum identity (record { is = is_at; stands = tt; fits = fits }) t o old new tell shelf link_due result mends shown

      -- a call failed, or neither file shows the block
      pub link_failed : (e : Ending) (Shows : Units → Type 0)
          → MendsUnit Trailer identity old new (Err e) → Mended b (AreOfKind Trailer) t o old new (Err e) Shows
      link_failed e Shows mends =
          of_one b Trailer (BlockPlace walk.at.address) t o old new (Err e) Shows (due None (Err e) mends tt).answers (λ u is. tt)

      module _ (held : Holding) (shelf : Option Holding) (lent : shelf ≡ Some held) (more : ℕ)
          (mends : MendsUnit Trailer identity old new (Ok more)) (holds : HoldsShown Trailer identity old.first new.first shelf) where
        it : MendsDue b Trailer (BlockPlace walk.at.address) walk.at.checksum t o old new shelf (Ok more)
        it = due shelf (Ok more) mends holds

        module _ (m : Told) (is : new.first ≡ Some m) where
          same_chain : (e : ℕ) (x : Block)
              → InChain e x walked.chain → superblock_units b m.shown (BlockPlace e) ≡ superblock_units b t.shown (BlockPlace e)
          same_chain e x at =
              other_place b.file (content_of_superblock b) t o m new.first old.written new.written tell.whole is (BlockPlace e)
              Trailer (BlockPlace walk.at.address) more it.answers (λ (same : BlockPlace walk.at.address ≡ BlockPlace e). apart e x at (cc))

          arrives : Arrives (superblock_units b m.shown) walked.chain
              (content_of_superblock b).trailer (content_of_superblock b).trailer_checksum walk.at.address (number_of walk.at.checksum)
          arrives = arrives_there (superblock_units b t.shown) (superblock_units b m.shown) walked.chain (content_of_superblock b).trailer
              (content_of_superblock b).trailer_checksum walk.at.address (number_of walk.at.checksum) walked.arrives same_chain

          there : IsThere (superblock_units b m.shown) walk.at.address (number_of walk.at.checksum) held.unit
          there = it_is_there b walk.at.address walk.at.checksum
              m held.unit (lent_shown b.file Trailer (BlockPlace walk.at.address) walk.at.checksum m.shown shelf held lent (it.shows m is))

          walks_on : (next : Walk) → 0 < walk.at.address → GoesOn b walk index held.unit next
              → HasWalkedChain b (superblock_units b m.shown) n next
          walks_on next above goes = let d : ℕ × Block = (walk.at.address, block_of held.unit) in
              let on = arrives_more (superblock_units b m.shown) walked.chain d (content_of_superblock b).trailer (content_of_superblock
              b).trailer_checksum walk.at.address (number_of walk.at.checksum) arrives above refl there.sum there.kind there.shown in
              record {
                chain = walked.chain ++ d ∷ [];
                addresses = ap (λ (l : List Link). map (λ r. r.address) l) goes.2 ∙ map-append (λ r. r.address) walk.read.items (walk.at ∷ []) ∙ ap (λ (l : List ℕ). l ++ walk.at.address ∷ []) walked.addresses ∙ sym (map-append (λ x. x.0) walked.chain (d ∷ []));
                arrives = rw goes.1 on;
                links = links_more (shape b.file) (content_of_superblock b) n index walked.chain d walked.links counted goes.0;
              }

          breaks : 0 < walk.at.address → (IsLink (shape b.file) (content_of_superblock b) index (block_of held.unit) → ⊥)
              → RefusesFirstTrailer b.file m.shown (content_of_superblock b) (BadField TrailerChain walk.at.address)
          breaks above broken = (
            chain_named (superblock_units b m.shown) walked.chain (content_of_superblock b).trailer
                (content_of_superblock b).trailer_checksum walk.at.address (number_of walk.at.checksum) arrives above,
            inl (inl (
              refl,
              record {
                sum = number_of walk.at.checksum;
                reads = record { count = n; read = walked.chain; counts = counts; arrives = arrives; links = walked.links; more = some_more };
                index = index;
                at = counted;
                block = block_of held.unit;
                is = asked_shown (shown_of b.file.layout b.file.cluster m.shown)
                    walk.at.address (number_of walk.at.checksum) (block_of held.unit) there.shown there.sum there.kind;
                broken = broken;
              },
            )),
          )

        pub link_on : (next : Walk) → 0 < walk.at.address → GoesOn b walk index held.unit next
            → Mended b (AreOfKind Trailer) t o old new (Ok more) (λ image. HasWalkedChain b image n next)
        link_on next above goes = of_one b Trailer (BlockPlace walk.at.address) t o old new (Ok more) (λ image.
            HasWalkedChain b image n next) it.answers (λ m is. walks_on m is next above goes)

        pub link_broken : (e : Ending) (Shows : Units → Type 0) → 0 < walk.at.address → e ≡ broken_at walk.at.address
            → (IsLink (shape b.file) (content_of_superblock b) index (block_of held.unit) → ⊥)
            → Mended b (AreOfKind Trailer) t o old new (Err e) Shows
        link_broken e Shows above is broken =
            subst (λ (x : Ending). Mended b (AreOfKind Trailer) t o old new (Err x) Shows) (sym is) (record {
              answers = came_with b.file (content_of_superblock b) _ (AreOfKind Trailer) t o new.first old.written new.written _ (λ ms m. AreOfKind Trailer ms × RefusesFirstTrailer b.file m.shown (content_of_superblock b) (BadField TrailerChain walk.at.address)) (kind_at Trailer (BlockPlace walk.at.address))
                  (λ ms m at of last. (kind_at Trailer (BlockPlace walk.at.address) ms of, breaks m at above broken)) it.answers;
              shown = λ m at. tt;
            })
