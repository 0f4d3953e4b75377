-- The block of a list of fills lays it out, and nothing else does.
use Rattle.std.proofs.Common.{◌≡◌, ℕ, ◌+◌, ◌*◌, ◌<◌, ◌≤◌, List, [], ◌∷◌, ◌++◌, length, get_or, take, drop, sym, refl, ap, ◌∙◌, arith, take-add}
use Rattle.std.specs.List.{flat_map}
use Rattle.std.proofs.lemmas.List.FromFn.{fill_by_all}
use Rattle.std.proofs.lemmas.List.{append_assoc, drop-append-le, drop_at, drop-drop, drop_more, length-append, length-drop, take_all, take-append-drop}
use Rattle.base.specs.Bytes.{bytes4, number4}
use Rattle.orders.specs.declared.trade.Fill.{Fill}
use Rattle.tape.specs.Asked.{fills_in}
use Rattle.tape.specs.Block.{LaysOut, block, block_length, fill_at, what_at, what_entry, who_at, who_entry}
use Rattle.tape.specs.Forms.{Bytes}
use Rattle.tape.proofs.Entries.{entries_are, entries_from, length_entries}
use Rattle.std.proofs.lemmas.Nat.{from_be_bytes-to_be_bytes_2 as back2, from_be_bytes-to_be_bytes_4 as back4}
use Rattle.tape.proofs.Numbers.{behind2, behind4, stand2, stand4}

-- the numbers of a fill fit their bytes
pub record Fits (f : Fill) : Type 0 where
  pub price : f.price < 4294967296
  pub volume : f.volume < 4294967296
  pub buy_folio : f.buyer.folio < 4294967296
  pub sell_folio : f.seller.folio < 4294967296
  pub buy_house : f.buyer.house < 65536
  pub sell_house : f.seller.house < 65536

module _ (fs : List Fill) where
  whos_long : length (flat_map who_entry fs) ≡ 12 * length fs
  whos_long = length_entries who_entry 12 (λ f. refl) fs

  whats_long : length (flat_map what_entry fs) ≡ 8 * length fs
  whats_long = length_entries what_entry 8 (λ f. refl) fs

  pub block_long : length (block fs) ≡ block_length (length fs)
  block_long = grind (arith, whos_long, whats_long, length-append)

  module _ (i : ℕ) (d : Fill) (below : i < length fs) where
    -- what lies behind the place of a fill's who-entry, and of its what-entry
    from_who : drop (who_at i) (block fs) ≡ who_entry (get_or fs i d) ++ (flat_map who_entry (drop (i + 1) fs) ++ flat_map what_entry fs)
    from_who = grind (arith, whos_long, drop-drop (12 * i) 8 (block fs), drop-append-le (12 * i) (flat_map who_entry fs) (flat_map what_entry fs), entries_from who_entry 12 (λ f. refl) i fs, drop_more fs i d, append_assoc)

    from_what : drop (what_at (length fs) i) (block fs) ≡ what_entry (get_or fs i d) ++ flat_map what_entry (drop (i + 1) fs)
    from_what =
        sym (drop-drop (8 * i) (8 + 12 * length fs) (block fs))
        ∙ ap (drop (8 * i)) (sym (drop-drop (12 * length fs) 8 (block fs)) ∙ drop_at (flat_map who_entry fs) (flat_map what_entry fs) (12 * length fs) whos_long)
        ∙ entries_from what_entry 8 (λ f. refl) i fs (omega arith)
        ∙ ap (flat_map what_entry) (drop_more fs i d below)

    entries_read : Fits (get_or fs i d) → get_or fs i d ≡ fill_at (block fs) (length fs) i
    entries_read fits =
        let f = get_or fs i d in
        let bs = block fs in
        let who = who_at i in
        let what = what_at (length fs) i in
        let here = λ (n : ℕ). let e : n ≡ n + 0 = omega arith in e in
        let price = behind4 bs _ what 4 from_what ∙ back4 f.price fits.price in
        let volume = ap (number4 bs) (here what) ∙ behind4 bs _ what 0 from_what ∙ back4 f.volume fits.volume in
        let buy_house = behind2 bs _ who 8 from_who ∙ back2 f.buyer.house fits.buy_house in
        let buy_folio = ap (number4 bs) (here who) ∙ behind4 bs _ who 0 from_who ∙ back4 f.buyer.folio fits.buy_folio in
        let sell_house = behind2 bs _ who 10 from_who ∙ back2 f.seller.house fits.sell_house in
        let sell_folio = behind4 bs _ who 4 from_who ∙ back4 f.seller.folio fits.sell_folio in
        rw (price, volume, buy_house, buy_folio, sell_house, sell_folio) refl

  -- the block of fills that fit their bytes lays them out
  pub block_lays_out : length fs ≤ 3000 → ((i : ℕ) (d : Fill) → i < length fs → Fits (get_or fs i d)) → LaysOut (block fs) fs
  block_lays_out few fit =
      record {
        counted = back4 (length fs) (omega arith);
        measured = back4 (block_length (length fs)) (omega arith) ∙ sym block_long;
        long = block_long;
        each = λ i d h. entries_read i d h (fit i d h);
      }

-- the fills that stand in the bytes are those that they lay out
pub laid_fills : (bs : List ℕ) (fs : List Fill) → LaysOut bs fs → fs ≡ fills_in bs (length fs)
laid_fills bs [] l = refl
laid_fills bs (f ∷ fs) l = fill_by_all (fill_at bs (length (f ∷ fs))) (f ∷ fs) (length (f ∷ fs)) f refl (λ k h. l.each k f h)

-- no block has two lists
pub one_list : (bs : List ℕ) (fs gs : List Fill) → LaysOut bs fs → LaysOut bs gs → fs ≡ gs
one_list bs fs gs l m = laid_fills bs fs l ∙ ap (fills_in bs) (sym l.counted ∙ m.counted) ∙ sym (laid_fills bs gs m)

both : (a b c d : List ℕ) → a ≡ c → b ≡ d → a ++ b ≡ c ++ d
both a b c d e f = ap (λ ys. ys ++ b) e ∙ ap (λ ys. c ++ ys) f

module _ (bs : List ℕ) (fs : List Fill) (small : Bytes bs) (laid : LaysOut bs fs) where
  -- the bytes from a place on, cut after so many
  cut : (at m k next : ℕ) → at + m ≡ next → take (m + k) (drop at bs) ≡ take m (drop at bs) ++ take k (drop next bs)
  cut at m k next e = take-add m k (drop at bs) ∙ ap (λ ys. take m (drop at bs) ++ take k ys) (drop-drop m at bs ∙ ap (λ n. drop n bs) e)

  module _ (i : ℕ) (d : Fill) (below : i < length fs) where
    who_stands : take 12 (drop (who_at i) bs) ≡ who_entry (get_or fs i d)
    who_stands =
        let a = who_at i in
        let long = laid.long in
        let houses = cut (a + 8) 2 2 (a + 10) (omega arith) ∙ sym (both _ _ _ _ (stand2 bs (a + 8) small (omega arith)) (stand2 bs (a + 10) small (omega arith))) in
        let behind = cut (a + 4) 4 4 (a + 8) (omega arith) ∙ both _ _ _ _ (sym (stand4 bs (a + 4) small (omega arith))) houses in
        cut a 4 8 (a + 4) (omega arith) ∙ both _ _ _ _ (sym (stand4 bs a small (omega arith))) behind ∙ sym (ap who_entry (laid.each i d below))

    what_stands : take 8 (drop (what_at (length fs) i) bs) ≡ what_entry (get_or fs i d)
    what_stands =
        let a = what_at (length fs) i in
        let long = laid.long in
        cut a 4 4 (a + 4) (omega arith)
        ∙ sym (ap what_entry (laid.each i d below) ∙ both _ _ _ _ (stand4 bs a small (omega arith)) (stand4 bs (a + 4) small (omega arith)))

  -- bytes that lay the fills out are their block
  pub one_form : bs ≡ block fs
  one_form =
      let n = length fs in
      let long = laid.long in
      let whos = entries_are who_entry 12 (λ f. refl) fs bs 8 (λ i d h. who_stands i d h) in
      let whats = entries_are what_entry 8 (λ f. refl) fs bs (8 + 12 * n) (λ i d h. what_stands i d h) in
      let end = length-drop (8 + 12 * n) bs in
      let count : take 4 bs ≡ bytes4 n = sym (stand4 bs 0 small (omega arith)) ∙ ap bytes4 laid.counted in
      let measure : take 4 (drop 4 bs) ≡ bytes4 (block_length n) = sym (stand4 bs 4 small (omega arith)) ∙ ap bytes4 (laid.measured ∙ long) in
      let entries : drop 8 bs ≡ flat_map who_entry fs ++ flat_map what_entry fs =
      sym (take-append-drop (12 * n) (drop 8 bs))
      ∙ ap (λ ys. take (12 * n) (drop 8 bs) ++ ys) (drop-drop (12 * n) 8 bs ∙ sym (take_all (8 * n) (drop (8 + 12 * n) bs) (omega arith)) ∙ whats)
      ∙ ap (λ ys. ys ++ flat_map what_entry fs) whos in
      grind (arith, take-append-drop 4 bs, count, take-append-drop 4 (drop 4 bs), measure, drop-drop 4 4 bs, entries)
