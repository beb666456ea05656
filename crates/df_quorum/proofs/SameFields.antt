-- Fields are equal where each of them is.
use Rattle.std.{proofs.{Common.{◌≡◌, ◌↔◌, ◌==◌, ◌&&◌, ℕ, Bool, IsTrue, Option, Some, None, eqb, refl, sym, ◌∙◌, ap}, lemmas.{Bool.Decides.{Decides-and, Decides-eqb}, Option.{same_Some}, Slice.Eq.{bytes_eq-Decides, slice_eq-Decides}}}, specs.{Bool.{Decides}, Option.{option_eq}, Str.{bytes_eq}, Cmp.Lexicographic.{pointwise}}}
use Rattle.df_format.specs.declared.superblock.SuperFields.{SuperFields}

option_decides : (a b : Option ℕ) → Decides (option_eq eqb a b) (a ≡ b)
option_decides None None = (λ _. refl, λ _. refl)
option_decides None (Some y) = (λ is. absurd (cc), λ is. absurd (cc))
option_decides (Some x) None = (λ is. absurd (cc), λ is. absurd (cc))
option_decides (Some x) (Some y) = (λ is. ap Some ((Decides-eqb x y).0 is), λ is. (Decides-eqb x y).1 (same_Some x y is))

-- the test of all fields, in their order
abbrev same : SuperFields → SuperFields → Bool
same f g = (f.version == g.version) && ((f.slots == g.slots) && ((f.message_size == g.message_size) && ((f.clients == g.clients)
    && ((f.block_size == g.block_size) && ((f.blocks == g.blocks) && ((f.cluster == g.cluster) && ((f.sequence == g.sequence)
    && ((f.op == g.op) && (bytes_eq f.op_checksum g.op_checksum && ((f.head == g.head) && ((f.replies == g.replies)
    && ((f.trailer_address == g.trailer_address) && (bytes_eq f.trailer_checksum g.trailer_checksum && ((f.trailer_size == g.trailer_size)
    && ((f.boot == g.boot) && (bytes_eq f.head_checksum g.head_checksum && (pointwise bytes_eq f.reply_checksums g.reply_checksums
    && (option_eq eqb f.first_nonzero g.first_nonzero))))))))))))))))))

pub same_decides : (f g : SuperFields) (b : Bool) → b ≡ same f g → IsTrue b ↔ (f ≡ g)
same_decides f g b is = let each = Decides-and _ _ (Decides-eqb f.version g.version) (Decides-and _ _ (Decides-eqb f.slots g.slots)
    (Decides-and _ _ (Decides-eqb f.message_size g.message_size) (Decides-and _ _ (Decides-eqb f.clients g.clients)
    (Decides-and _ _ (Decides-eqb f.block_size g.block_size) (Decides-and _ _ (Decides-eqb f.blocks g.blocks)
    (Decides-and _ _ (Decides-eqb f.cluster g.cluster) (Decides-and _ _ (Decides-eqb f.sequence g.sequence)
    (Decides-and _ _ (Decides-eqb f.op g.op) (Decides-and _ _ (bytes_eq-Decides f.op_checksum g.op_checksum)
    (Decides-and _ _ (Decides-eqb f.head g.head) (Decides-and _ _ (Decides-eqb f.replies g.replies)
    (Decides-and _ _ (Decides-eqb f.trailer_address g.trailer_address)
    (Decides-and _ _ (bytes_eq-Decides f.trailer_checksum g.trailer_checksum) (Decides-and _ _ (Decides-eqb f.trailer_size g.trailer_size)
    (Decides-and _ _ (Decides-eqb f.boot g.boot) (Decides-and _ _ (bytes_eq-Decides f.head_checksum g.head_checksum)
    (Decides-and _ _ (slice_eq-Decides bytes_eq-Decides f.reply_checksums g.reply_checksums _ refl)
    (option_decides f.first_nonzero g.first_nonzero)))))))))))))))))) in (
      λ holds. let p = each.0 (sym is ∙ holds) in λ i. record {
        version = p.0 i;
        slots = p.1.0 i;
        message_size = p.1.1.0 i;
        clients = p.1.1.1.0 i;
        block_size = p.1.1.1.1.0 i;
        blocks = p.1.1.1.1.1.0 i;
        cluster = p.1.1.1.1.1.1.0 i;
        sequence = p.1.1.1.1.1.1.1.0 i;
        op = p.1.1.1.1.1.1.1.1.0 i;
        op_checksum = p.1.1.1.1.1.1.1.1.1.0 i;
        head = p.1.1.1.1.1.1.1.1.1.1.0 i;
        replies = p.1.1.1.1.1.1.1.1.1.1.1.0 i;
        trailer_address = p.1.1.1.1.1.1.1.1.1.1.1.1.0 i;
        trailer_checksum = p.1.1.1.1.1.1.1.1.1.1.1.1.1.0 i;
        trailer_size = p.1.1.1.1.1.1.1.1.1.1.1.1.1.1.0 i;
        boot = p.1.1.1.1.1.1.1.1.1.1.1.1.1.1.1.0 i;
        head_checksum = p.1.1.1.1.1.1.1.1.1.1.1.1.1.1.1.1.0 i;
        reply_checksums = p.1.1.1.1.1.1.1.1.1.1.1.1.1.1.1.1.1.0 i;
        first_nonzero = p.1.1.1.1.1.1.1.1.1.1.1.1.1.1.1.1.1.1 i;
      },
      λ all. is ∙ each.1 (
        ap (λ (x : SuperFields). x.version) all,
        (
          ap (λ (x : SuperFields). x.slots) all,
          (
            ap (λ (x : SuperFields). x.message_size) all,
            (
              ap (λ (x : SuperFields). x.clients) all,
              (
                ap (λ (x : SuperFields). x.block_size) all,
                (
                  ap (λ (x : SuperFields). x.blocks) all,
                  (
                    ap (λ (x : SuperFields). x.cluster) all,
                    (
                      ap (λ (x : SuperFields). x.sequence) all,
                      (
                        ap (λ (x : SuperFields). x.op) all,
                        (
                          ap (λ (x : SuperFields). x.op_checksum) all,
                          (
                            ap (λ (x : SuperFields). x.head) all,
                            (
                              ap (λ (x : SuperFields). x.replies) all,
                              (
                                ap (λ (x : SuperFields). x.trailer_address) all,
                                (
                                  ap (λ (x : SuperFields). x.trailer_checksum) all,
                                  (
                                    ap (λ (x : SuperFields). x.trailer_size) all,
                                    (
                                      ap (λ (x : SuperFields). x.boot) all,
                                      (
                                        ap (λ (x : SuperFields). x.head_checksum) all,
                                        (
                                          ap (λ (x : SuperFields). x.reply_checksums) all,
                                          ap (λ (x : SuperFields). x.first_nonzero) all,
                                        ),
                                      ),
                                    ),
                                  ),
                                ),
                              ),
                            ),
                          ),
                        ),
                      ),
                    ),
                  ),
                ),
              ),
            ),
          ),
        ),
      ),
    )
