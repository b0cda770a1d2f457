-- Each step on the word keeps its rule, and shows what it must show.
use Rattle.std.proofs.Common.{◌≡◌, ◌≢◌, ℕ, zero, suc, ◌+◌, ◌≤◌, true, false, true≢false, List, [], ◌∷◌, ◌++◌, length, set, refl, sym, ap, ◌∙◌, subst, ⊎_elim, arith}
use Rattle.std.specs.Prelude.{slice_index, slice_set}
use mathlib.Core.Option.{some, none, some-injective, some-ne-none}
use lib.ListN.{get_elem?}
use Rattle.dbg_base.specs.declared.limits.TheConstants.{BREAKPOINTS}
use Rattle.atomic_table.specs.Table.{step, keeps, Allows, Splits, Joins}
use Rattle.atomic_table.proofs.Lists.{at_set, at_snoc, set_again}
use Rattle.dbg_board.specs.declared.glance.Glance.{Glance}
use Rattle.dbg_board.specs.declared.word.Known.{Known}
use Rattle.dbg_board.specs.Pairs.{Begins, last_of}
use Rattle.dbg_board.specs.Words.{code_of, glance_of}
use Rattle.dbg_board.specs.Rules.{publishing, hosting, following, Knows, IsKept, Adds, Sees, Compared, Sat}
use Rattle.dbg_board.proofs.PairListLemmas.{begins_itself, begins_more, last_pushed, numbered_pushed, last_halt, gives_back}

untrue : false ≡ true → ⊥
untrue e = true≢false (sym e)

-- the views, with that of one holder replaced
replaced : (publisher : ℕ) (published : List Glance) (views : List Known) (id : ℕ) (known : Known)
    → ((seat : ℕ) (other : Known) → seat ≢ id → get_elem? views seat ≡ some other → Knows publisher published seat other)
    → Knows publisher published id known
    → (seat : ℕ) (one : Known) → get_elem? (set views id known) seat ≡ some one → Knows publisher published seat one
replaced publisher published views id known others own seat one at =
    ⊎_elim
    (λ (is : (seat ≡ id) × (known ≡ one)). subst (λ (y : ℕ × Known). Knows publisher published y.0 y.1) (λ i. (sym is.0 i, is.1 i)) own)
    (λ (is : (seat ≢ id) × (get_elem? views seat ≡ some one)). others seat one is.0 is.1)
    (at_set views id seat known one at)

-- a view of a prefix of these pairs
follows : (publisher : ℕ) (published seen : List Glance) (seat : ℕ) → Begins seen published → Knows publisher published seat (following seen)
follows publisher published seen seat begins = record {
  publishes = λ is. absurd (untrue is);
  pairs = begins;
  guest = (published, refl);
}

-- the publisher, without a guest
publishes_all : (publisher : ℕ) (published pairs : List Glance) (seat : ℕ) → seat ≡ publisher → pairs ≡ published
    → Knows publisher published seat (publishing pairs)
publishes_all publisher published pairs seat is all = record {
  publishes = λ _. (is, all);
  pairs = subst (λ whole. Begins pairs whole) all (begins_itself pairs);
  guest = (published, refl);
}

-- the word at the start
pub opens : IsKept record { words = 0 ∷ []; homes = []; views = publishing [] ∷ [] }
opens = record { publisher = 0; published = []; word = refl; numbered = tt; known = first }
  where
    first : (seat : ℕ) (known : Known) → get_elem? (publishing [] ∷ []) seat ≡ some known → Knows 0 [] seat known
    first zero known at = subst (Knows 0 [] 0) (some-injective _ _ at) (publishes_all 0 [] [] 0 refl refl)
    first (suc seat) known at = absurd (some-ne-none known (sym at))

-- a word that is loaded stays
stays : (words : List ℕ) (code : ℕ) → words ≡ code ∷ [] → slice_set words 0 (slice_index words 0) ≡ code ∷ []
stays words code is = subst (λ row. slice_set row 0 (slice_index row 0) ≡ code ∷ []) (sym is) refl

publishes_at : (slots id : ℕ) (pairs : List Glance) (pair : Glance) (code : ℕ) → code ≡ code_of pair → pair.calls ≡ length pairs + 1
    → pair.halt ≤ BREAKPOINTS → Allows IsKept slots id (publishing pairs, []) 0 (λ _. code) (λ _. Adds (step slots 0 code 0 none) (publishing pairs, []) code)
publishes_at slots id pairs pair code is next halt state kept _ at _ =
    let own = (kept.known id (publishing pairs) at).publishes refl in
    let after : List Glance = kept.published ++ pair ∷ [] in
    let same : pairs ++ glance_of code ∷ [] ≡ after = λ i. own.1 i ++ (ap glance_of is ∙ gives_back pair halt) i ∷ [] in
    let word : code ≡ code_of (last_of after) = is ∙ ap code_of (sym (last_pushed record { calls = 0; halt = 0 } pair kept.published)) in (
      publishing (pairs ++ glance_of code ∷ []),
      keeps,
      tt,
      record {
        publisher = kept.publisher;
        published = after;
        word = ap (λ row. slice_set row 0 code) kept.word ∙ ap (λ n. n ∷ []) word;
        numbered = numbered_pushed 0 kept.published pair kept.numbered (omega (arith, next, ap length own.1)) halt;
        known = replaced kept.publisher after state.views id (publishing (pairs ++ glance_of code ∷ []))
            (λ seat other apart there. let knows = kept.known seat other there in record {
              publishes = λ claims. absurd (apart ((knows.publishes claims).0 ∙ sym own.0));
              pairs = begins_more other.pairs kept.published (pair ∷ []) knows.pairs;
              guest = begins_more other.guest kept.published (pair ∷ []) knows.guest;
            })
            (publishes_all kept.publisher after (pairs ++ glance_of code ∷ []) id own.0 same);
      },
      refl,
    )

looks_at : (slots id : ℕ) (seen : List Glance) → Allows IsKept slots id (following seen, []) 0 (λ n. n) (Sees (step slots 0 0 0 none) (following seen, []))
looks_at slots id seen state kept _ at _ =
    let published : List Glance = kept.published in
    let found : slice_index state.words 0 ≡ code_of (last_of published) = ap (λ row. slice_index row 0) kept.word in (
      following published,
      keeps,
      tt,
      record {
        publisher = kept.publisher;
        published = published;
        word = stays state.words (code_of (last_of published)) kept.word;
        numbered = kept.numbered;
        known = replaced kept.publisher published state.views id (following published) (λ seat other _ there. kept.known seat other there)
            (follows kept.publisher published published id (begins_itself published));
      },
      (refl, (kept.known id (following seen) at).pairs, kept.numbered, ap glance_of found ∙ gives_back (last_of published) (last_halt published kept.numbered)),
    )

compares_at : (slots id : ℕ) (pairs guest : List Glance)
    → Allows IsKept slots id (hosting pairs guest, []) 0 (λ n. n) (Compared (step slots 0 0 0 none) (hosting pairs guest, []))
compares_at slots id pairs guest state kept _ at _ =
    let knows = kept.known id (hosting pairs guest) at in
    let own = knows.publishes refl in (
      publishing pairs,
      keeps,
      tt,
      record {
        publisher = kept.publisher;
        published = kept.published;
        word = stays state.words (code_of (last_of kept.published)) kept.word;
        numbered = kept.numbered;
        known = replaced kept.publisher kept.published state.views id (publishing pairs) (λ seat other _ there. kept.known seat other there)
            (publishes_all kept.publisher kept.published pairs id own.0 own.1);
      },
      (refl, subst (λ whole. Begins guest whole) (sym own.1) knows.guest),
    )

-- a view of what a holder knows
pub shows : (id : ℕ) (known : Known) → Splits IsKept id known known (following known.pairs)
shows id known state kept at = record {
  publisher = kept.publisher;
  published = kept.published;
  word = kept.word;
  numbered = kept.numbered;
  known = λ seat one there. ⊎_elim
      (λ was. kept.known seat one (subst (λ views. get_elem? views seat ≡ some one) (set_again state.views id known at) was))
      (λ (is : following known.pairs ≡ one). subst (λ new. Knows kept.publisher kept.published seat new) is
      (follows kept.publisher kept.published known.pairs seat (kept.known id known at).pairs))
      (at_snoc (set state.views id known) (following known.pairs) one seat there);
}

hosts_at : (id : ℕ) (pairs : List Glance) (other : ℕ) (guest : Known)
    → Joins IsKept id (publishing pairs) other guest (hosting pairs guest.pairs) (following [])
hosts_at id pairs other guest state kept at apart there =
    let own = kept.known id (publishing pairs) at in
    let all = own.publishes refl in
    let host : Known = hosting pairs guest.pairs in
    let seen : Begins guest.pairs kept.published = ⊎_elim
    (λ (is : (other ≡ id) × (host ≡ guest)). absurd (apart is.0))
    (λ (is : (other ≢ id) × (get_elem? state.views other ≡ some guest)). (kept.known other guest is.1).pairs)
    (at_set state.views id other host guest there) in
    record {
      publisher = kept.publisher;
      published = kept.published;
      word = kept.word;
      numbered = kept.numbered;
      known = replaced kept.publisher kept.published (set state.views id host) other (following [])
          (λ seat one _ at'. replaced kept.publisher kept.published state.views id host (λ seat' one' _ at''. kept.known seat' one' at'')
          record { publishes = λ _. all; pairs = own.pairs; guest = seen } seat one at')
          (follows kept.publisher kept.published [] other (kept.published, refl));
    }

-- the same for what a holder knows, if that is known
pub publishes : (slots id : ℕ) (me : Sat) (pair : Glance) (code : ℕ) → me ≡ (publishing me.0.pairs, []) → code ≡ code_of pair
    → pair.calls ≡ length me.0.pairs + 1 → pair.halt ≤ BREAKPOINTS → Allows IsKept slots id me 0 (λ _. code) (λ _. Adds (step slots 0 code 0 none) me code)
publishes slots id me pair code is word next halt =
    subst (λ (own : Sat). Allows IsKept slots id own 0 (λ _. code) (λ _. Adds (step slots 0 code 0 none) own code)) (sym is)
    (publishes_at slots id me.0.pairs pair code word next halt)

pub looks : (slots id : ℕ) (me : Sat) → me ≡ (following me.0.pairs, []) → Allows IsKept slots id me 0 (λ n. n) (Sees (step slots 0 0 0 none) me)
looks slots id me is =
    subst (λ (own : Sat). Allows IsKept slots id own 0 (λ n. n) (Sees (step slots 0 0 0 none) own)) (sym is) (looks_at slots id me.0.pairs)

pub compares : (slots id : ℕ) (me : Sat) (pairs guest : List Glance) → me ≡ (hosting pairs guest, [])
    → Allows IsKept slots id me 0 (λ n. n) (Compared (step slots 0 0 0 none) me)
compares slots id me pairs guest is =
    subst (λ (own : Sat). Allows IsKept slots id own 0 (λ n. n) (Compared (step slots 0 0 0 none) own)) (sym is) (compares_at slots id pairs guest)

pub hosts : (id : ℕ) (known : Known) (pairs : List Glance) (other : ℕ) (guest : Known) → known ≡ publishing pairs
    → Joins IsKept id known other guest (hosting known.pairs guest.pairs) (following [])
hosts id known pairs other guest is =
    subst (λ (own : Known). Joins IsKept id own other guest (hosting own.pairs guest.pairs) (following [])) (sym is) (hosts_at id pairs other guest)
