-- How the orders of a page and of a sitting are counted, and how the counts are written. Assumes nothing.
use Rattle.std.specs.Prelude.{ℕ, ◌+◌, ◌-◌, ◌^◌, min, Bool, true, false, cond, nat_eq, [], ◌++◌, codes, decimal}
use Rattle.orders.specs.declared.order.PageOrder.{PageOrder}
use Rattle.orders.specs.declared.order.PageOrder.TheVariants.{Marks, Frames, Measure, Cover, NoMove}
use Rattle.orders.specs.declared.order.SheetOrder.{SheetOrder}
use Rattle.orders.specs.declared.order.SheetOrder.TheVariants.{Call, Set}
use Rattle.orders.specs.Words.{Text}
use Rattle.sittings.specs.declared.tally.Tally.{Tally}

abbrev pub none_yet : Tally
none_yet = record { pages = 0; orders = 0; refused = 0; unreadable = 0; not_marked = 0; points = 0; right = 0; doubtful = 0 }

-- as long as it fits
abbrev pub at_most : ℕ → ℕ
at_most n = min n (2 ^ 64 - 1)

abbrev pub one_more : ℕ → ℕ
one_more n = at_most (n + 1)

-- ---- one more
abbrev pub with_page : Tally → Tally
with_page t = record t { pages = one_more t.pages }

-- a page, and the order that begins it
abbrev pub with_page_line : Tally → Tally
with_page_line t = record t { pages = one_more t.pages; orders = one_more t.orders }

-- an order, with a count more for each thing that it is
abbrev pub with_order : Bool → Bool → Bool → Bool → Tally → Tally
with_order is_point in_doubt is_refused is_right t = record t {
  orders = one_more t.orders;
  refused = cond is_refused (one_more t.refused) t.refused;
  points = cond is_point (one_more t.points) t.points;
  right = cond is_right (one_more t.right) t.right;
  doubtful = cond is_point (cond in_doubt (one_more t.doubtful) t.doubtful) t.doubtful;
}

abbrev pub with_point : Bool → Tally → Tally
with_point in_doubt t = record t { points = one_more t.points; doubtful = cond in_doubt (one_more t.doubtful) t.doubtful }

abbrev pub with_unreadable : Tally → Tally
with_unreadable t = record t { unreadable = one_more t.unreadable }

-- an order that was not marked
abbrev pub with_not_marked : Tally → Tally
with_not_marked t = record t { orders = one_more t.orders; not_marked = one_more t.not_marked }

-- both together
abbrev pub joined : Tally → Tally → Tally
joined t u = record {
  pages = at_most (t.pages + u.pages);
  orders = at_most (t.orders + u.orders);
  refused = at_most (t.refused + u.refused);
  unreadable = at_most (t.unreadable + u.unreadable);
  not_marked = at_most (t.not_marked + u.not_marked);
  points = at_most (t.points + u.points);
  right = at_most (t.right + u.right);
  doubtful = at_most (t.doubtful + u.doubtful);
}

-- ---- which orders set a point
abbrev pub sets : {M : Type 0} → SheetOrder M → Bool
sets (Call o) = false
sets (Set p) = true

abbrev pub is_point : PageOrder → Bool
is_point (Marks o) = sets o
is_point (Frames o) = sets o
is_point (Measure m) = false
is_point (Cover q) = false
is_point (NoMove f) = false

-- ---- texts
-- a count that is told after the others, unless it is 0
abbrev pub also : Text → ℕ → Text
also what n = cond (nat_eq n 0) [] (codes ", " ++ (what ++ (codes " " ++ decimal n)))

-- page NAME: right N of N, refused N, unreadable N
abbrev pub page_sum : Text → Tally → Text
page_sum name t =
    codes "page " ++ (name ++ (codes ": right " ++ (decimal t.right ++ (codes " of " ++ (decimal t.points ++ (codes ", refused " ++ (decimal t.refused
    ++ (codes ", unreadable " ++ (decimal t.unreadable ++ (also (codes "not marked") t.not_marked ++ also (codes "doubtful") t.doubtful))))))))))

-- the two last lines, the second without its end
abbrev pub counts_line : Tally → Text
counts_line t =
    codes "pages " ++ (decimal t.pages ++ (codes ", orders " ++ (decimal t.orders ++ (codes ", refused " ++ (decimal t.refused
    ++ (codes ", unreadable lines " ++ (decimal t.unreadable ++ (also (codes "not marked") t.not_marked ++ codes "\n"))))))))

abbrev pub right_line : Tally → Text
right_line t = codes "right " ++ (decimal t.right ++ (codes " of " ++ decimal t.points))

abbrev pub summary : Tally → Text
summary t = counts_line t ++ right_line t
