-- What a find gives for a path, by the listed objects.
use Prim.Native.Nat.{ℕ, zero, suc, ◌≤◌}
use mathlib.Core.Path.{◌≡◌, refl, sym, ap, ◌∙◌}
use mathlib.Core.Bool.{Bool, true, false, not, ◌&&◌, ◌||◌}
use mathlib.Core.List.{List}
use native.Mathlib.Omega.{arith}
use lib.Dec.{eqb}
use lib.ListN.{length}
use borrow.Author.Tests.{eq-eqb, le-leb}
use Rattle.format.specs.Basics.Bytes.{Bytes}
use Rattle.format.specs.Layout.Geometry.{Geometry}
use Rattle.format.specs.Layout.PathOrder.{same_path}
use Rattle.format.specs.Layout.Directory.{Directory}
use Rattle.format.specs.Layout.Tree.{Forest, forest, entries}
use Rattle.format.specs.Layout.Volume.{Volume, volume}
use Rattle.format.specs.Layout.Stream.{stream_size}
use Rattle.format.specs.Layout.Objects.{Object, object_at, objects_of}
use Rattle.format.specs.Rules.Length.{work_need}
use Rattle.format.specs.Rules.Verdict.{Accepted}
use Rattle.format.specs.Calls.Paths.{Path, names, joined}
use Rattle.format.specs.Calls.Find.{Found, at, refused, resolve, answer_of, entry_of}
use Rattle.format.specs.Calls.Call.{find, work_of}
use Rattle.format.specs.Calls.Answer.{first_of, answer_in, answer}
use Rattle.format.specs.Calls.Reply.{plain, found_reply, done, on_zero, reply_by}
use Rattle.format.specs.Claims.Listing.{is_named, is_known, agrees, FoundBy}
use Rattle.theory.proofs.Refusals.{RefusedLow, resolve_low}
use Rattle.theory.proofs.Tests.{and_true_of}
use Rattle.theory.proofs.Trees.PathOrder.{same_self}
use Rattle.frame.proofs.Accepted.{verdict_accepted}
use Rattle.listing_laws.specs.Leads.{Led, AllLed}
use Rattle.listing_laws.proofs.Joined.{names_joined}
use Rattle.listing_laws.proofs.Leads.{led_all}
use Rattle.listing_laws.proofs.Resolved.{resolve_led, found_known, known_found, unknown_refused}

module _ (g : Geometry) (img : Bytes) (acc : Accepted g img) (work : List ℕ) (enough : work_need (length img) ≤ length work) where
  abbrev v : Volume
  v = volume g img

  abbrev d : Directory
  d = v.directory

  -- ---- the reply

  answer_is : (p : Path) → answer g img (find p work) ≡ answer_of (resolve d p)
  unfolding answer answer_in work_of first_of
  answer_is p = rw (verdict_accepted g img (length work) acc, le-leb (work_need (length img)) (length work) enough)

  number_is : (p : Path) → (reply_by g img (find p work)).number ≡ answer_of (resolve d p)
  unfolding reply_by done found_reply plain on_zero
  number_is p = go (answer g img (find p work)) ∙ answer_is p
    where
      go : (n : ℕ) → (on_zero n (found_reply v (entry_of (resolve d p))) (plain n)).number ≡ n
      go zero = refl
      go (suc n) = refl

  pub found_reply_lem : (p : Path) (e : ℕ) (b : Forest) → resolve d p ≡ at e b → reply_by g img (find p work) ≡ found_reply v e
  unfolding reply_by on_zero done answer_of entry_of
  found_reply_lem p e b h = rw (answer_is p, h)

  -- ---- an object's own path

  pub entry_found_lem : (o : Object) (e : ℕ) → Led d o e → (reply_by g img (find (joined o.path) work)).entry ≡ e
  unfolding found_reply
  entry_found_lem o e l =
      let same = ap (λ ns. same_path ns o.path) (names_joined o.path l.legal) ∙ same_self o.path in
      ap (λ r. r.entry) (found_reply_lem (joined o.path) e l.below (resolve_led d (joined o.path) o e l same))

  -- ---- any path

  led_agrees : (p : Path) (o : Object) (e : ℕ) → Led d o e → agrees (reply_by g img (find p work)) (names p) o ≡ true
  unfolding agrees is_named found_reply stream_size object_at
  led_agrees p o e l = go (same_path (names p) o.path) refl
    where
      go : (t : Bool) → same_path (names p) o.path ≡ t
          → (not t || (eqb (reply_by g img (find p work)).type o.type && eqb (reply_by g img (find p work)).size o.size)) ≡ true
      go false s = refl
      go true s =
          let r = found_reply_lem p e l.below (resolve_led d p o e l s) in
          and_true_of (eqb (reply_by g img (find p work)).type o.type) (eqb (reply_by g img (find p work)).size o.size)
          (eq-eqb (reply_by g img (find p work)).type o.type (ap (λ r. r.type) r ∙ sym (ap (λ o. o.type) l.says)))
          (eq-eqb (reply_by g img (find p work)).size o.size (ap (λ r. r.size) r ∙ sym (ap (λ o. o.size) l.says)))

  answer_zero : (p : Path) (f : Found) → resolve d p ≡ f → RefusedLow f → answer_of f ≡ 0 → is_known (objects_of d) (names p) ≡ true
  unfolding answer_of
  answer_zero p (at e b) h l z = found_known d p e b h
  answer_zero p (refused a) h l z = absurd (omega (arith, l.0))

  at_zero : (e : ℕ) (b : Forest) → answer_of (at e b) ≡ 0
  unfolding answer_of
  at_zero e b = refl

  pub found_by : AllLed d (objects_of d) (entries (forest d)) → (p : Path) → FoundBy (objects_of d) p (reply_by g img (find p work))
  found_by led p =
      record {
        exactly = (
          λ z. answer_zero p (resolve d p) refl (resolve_low d p) (sym (number_is p) ∙ z),
          λ k. let w = known_found d p led k in number_is p ∙ ap answer_of w.2 ∙ at_zero w.0 w.1,
        );
        same = led_all d (agrees (reply_by g img (find p work)) (names p)) (led_agrees p) (objects_of d) (entries (forest d)) led;
        other = λ w k. rw (number_is p) (unknown_refused d p w k);
      }
